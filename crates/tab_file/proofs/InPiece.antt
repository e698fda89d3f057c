-- Items that stand in a piece of a file.
use Rattle.std.proofs.Common.{◌≡◌, ◌≢◌, ℕ, zero, suc, ◌+◌, ◌*◌, ◌-◌, ◌≤◌, ◌<◌, Bool, true, false, cond, ltb, List, [], ◌∷◌, ◌++◌, length, replicate, take, drop, Option, None, Some, refl, sym, ap, subst, ◌∙◌, append_assoc, arith}
use Rattle.std.specs.Option.{option_or}
use Rattle.std.specs.Int.{Width, w32, w64, byte_len, from_le_bytes}
use Rattle.std.proofs.lemmas.Bool.{ltb-true, ltb-false, lt-ltb, le-ltb}
use Rattle.std.proofs.lemmas.List.{drop-drop, drop-append-le, take-append-le, length-drop, length-append}
use Rattle.gold.specs.Field.{p}
use Rattle.tab_file.specs.declared.fault.TabErr.{TabErr}
use Rattle.tab_file.specs.declared.fault.TabKind.TheVariants.{Short, NotCanonical}
use Rattle.tab_file.specs.Items.{Item, failure, number_at, wrong_at, first_failure, value_item}
use Rattle.tab_file.specs.Steps.{Pass, Fail}

-- ---- bytes that stand at an offset

pub drop_on : (file : List ℕ) (at : ℕ) (xs ys : List ℕ) (k : ℕ) → k ≤ length xs → drop at file ≡ xs ++ ys → drop (at + k) file ≡ drop k xs ++ ys
drop_on file at xs ys k le h = sym (drop-drop k at file) ∙ ap (drop k) h ∙ drop-append-le k xs ys le

pub long_enough : (file : List ℕ) (at : ℕ) (xs ys : List ℕ) → at ≤ length file → drop at file ≡ xs ++ ys → at + length xs ≤ length file
long_enough file at xs ys le h =
    let len : length (drop at file) ≡ length xs + length ys = ap length h ∙ length-append xs ys in
    omega (arith, le, len, length-drop at file)

pub number_in_piece : (w : Width) (file : List ℕ) (at : ℕ) (xs ys : List ℕ) (k : ℕ) → k + byte_len w ≤ length xs → drop at file ≡ xs ++ ys → number_at w file (at + k) ≡ number_at w xs k
number_in_piece w file at xs ys k le h =
    let inside : k ≤ length xs = omega (arith, le) in
    let room : byte_len w ≤ length (drop k xs) = omega (arith, le, length-drop k xs) in
    ap (λ (zs : List ℕ). from_le_bytes w (take (byte_len w) zs)) (drop_on file at xs ys k inside h)
    ∙ ap (from_le_bytes w) (take-append-le (byte_len w) (drop k xs) ys room)

-- ---- one item

pub right_item : (bytes : List ℕ) (at : ℕ) (item : Item) → at + byte_len item.width ≤ length bytes → item.wrong at (number_at item.width bytes at) ≡ None → wrong_at bytes at item ≡ None
right_item bytes at item whole right = rw (le-ltb (length bytes) (at + byte_len item.width) whole) right

pub wrong_item : (bytes : List ℕ) (at : ℕ) (item : Item) (e : TabErr) → at + byte_len item.width ≤ length bytes → item.wrong at (number_at item.width bytes at) ≡ Some e → wrong_at bytes at item ≡ Some e
wrong_item bytes at item e whole wrong = rw (le-ltb (length bytes) (at + byte_len item.width) whole) wrong

pub short_item : (bytes : List ℕ) (at : ℕ) (item : Item) → length bytes < at + byte_len item.width → wrong_at bytes at item ≡ Some (failure Short (length bytes))
short_item bytes at item short = rw (lt-ltb (length bytes) (at + byte_len item.width) short) refl

pub Pass-item : (bytes : List ℕ) (at : ℕ) (item : Item) → at + byte_len item.width ≤ length bytes → item.wrong at (number_at item.width bytes at) ≡ None → Pass bytes at (item ∷ []) (at + byte_len item.width)
Pass-item bytes at item whole right = record {
  whole = whole;
  rest = λ more. ap (λ (o : Option TabErr). option_or o (first_failure bytes (at + byte_len item.width) more)) (right_item bytes at item whole right);
}

pub Fail-item : (bytes : List ℕ) (at : ℕ) (item : Item) (e : TabErr) → wrong_at bytes at item ≡ Some e → Fail bytes at (item ∷ []) e
Fail-item bytes at item e wrong other more = ap (λ (o : Option TabErr). option_or o (first_failure bytes (at + byte_len item.width) more)) wrong

-- ---- values

pub value_right : (at v : ℕ) → v < p → value_item.wrong at v ≡ None
value_right at v lt = rw (lt-ltb v p lt) refl

pub value_wrong : (at v : ℕ) → p ≤ v → value_item.wrong at v ≡ Some (failure NotCanonical at)
value_wrong at v le = rw (le-ltb v p le) refl
