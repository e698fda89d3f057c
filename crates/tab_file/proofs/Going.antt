-- Going over items one after the other, and over the numbers that stand there.
use Rattle.std.proofs.Common.{◌≡◌, ℕ, zero, suc, ◌+◌, ◌*◌, ◌-◌, ◌≤◌, List, [], ◌∷◌, ◌++◌, length, replicate, refl, sym, ap, subst, ◌∙◌, append_assoc, arith}
use Rattle.std.specs.Prelude.{Result, IfErr, IsErrAnd}
use Rattle.std.proofs.lemmas.Result.{err_from_is_err_and}
use Rattle.std.specs.Int.{Width, w64, byte_len}
use Rattle.std.proofs.lemmas.List.{replicate-append-replicate}
use Rattle.tab_file.specs.declared.fault.TabErr.{TabErr}
use Rattle.tab_file.specs.Items.{Item, first_failure, number_at}
use Rattle.tab_file.specs.Reading.{numbers_from}
use Rattle.tab_file.specs.Steps.{Pass, Fail, columns_from}

-- an error that is passed on by `?`
pub IfErr-passed : {T : Type 0} (r : Result T TabErr) (e : TabErr) (P : TabErr → Type 0) → IsErrAnd r (λ y. y ≡ e) → P e → IfErr r P
IfErr-passed r e P passed p =
    let q = err_from_is_err_and r passed in
    rw (q.1, q.2) p

pub Pass-none : (bytes : List ℕ) (at : ℕ) → at ≤ length bytes → Pass bytes at [] at
Pass-none bytes at h = record { whole = h; rest = λ more. refl }

pub Pass-then : (bytes : List ℕ) (at m n : ℕ) (xs ys : List Item) → Pass bytes at xs m → Pass bytes m ys n → Pass bytes at (xs ++ ys) n
Pass-then bytes at m n xs ys p q = record {
  whole = q.whole;
  rest = λ more. ap (first_failure bytes at) (append_assoc xs ys more) ∙ p.rest (ys ++ more) ∙ q.rest more;
}

pub Pass-fail : (bytes : List ℕ) (at m : ℕ) (xs ys : List Item) (e : TabErr) → Pass bytes at xs m → Fail bytes m ys e → Fail bytes at (xs ++ ys) e
Pass-fail bytes at m xs ys e p f fault more = ap (first_failure bytes at) (append_assoc xs ys more) ∙ p.rest (ys ++ more) ∙ f fault more

pub Fail-then : (bytes : List ℕ) (at : ℕ) (xs ys : List Item) (e : TabErr) → Fail bytes at xs e → Fail bytes at (xs ++ ys) e
Fail-then bytes at xs ys e f fault more = ap (first_failure bytes at) (append_assoc xs ys more) ∙ f fault (ys ++ more)

-- ---- numbers of four bytes each, and what follows them

-- the items from the second on
pub Pass-cons : (bytes : List ℕ) (at m k n : ℕ) (i : Item) (is : List Item) → k ≡ m → Pass bytes at (i ∷ []) k → Pass bytes m is n → Pass bytes at (i ∷ is) n
Pass-cons bytes at m k n i is e p q = Pass-then bytes at k n (i ∷ []) is p (subst (λ j. Pass bytes j is n) (sym e) q)

pub Fail-cons : (bytes : List ℕ) (at m k : ℕ) (i : Item) (is : List Item) (fault : TabErr) → k ≡ m → Pass bytes at (i ∷ []) k → Fail bytes m is fault → Fail bytes at (i ∷ is) fault
Fail-cons bytes at m k i is fault e p f = Pass-fail bytes at k (i ∷ []) is fault p (subst (λ j. Fail bytes j is fault) (sym e) f)

pub Fail-second : (bytes : List ℕ) (at : ℕ) (a b : Item) (is : List Item) (e : TabErr) → Pass bytes at (a ∷ []) (at + 4) → Fail bytes (at + 4) (b ∷ []) e → Fail bytes at (a ∷ b ∷ is) e
Fail-second bytes at a b is e p f = Fail-cons bytes at (at + 4) (at + 4) a (b ∷ is) e refl p (Fail-then bytes (at + 4) (b ∷ []) is e f)

pub Fail-third : (bytes : List ℕ) (at : ℕ) (a b c : Item) (is : List Item) (e : TabErr) → Pass bytes at (a ∷ []) (at + 4) → Pass bytes (at + 4) (b ∷ []) (at + 4 + 4) → Fail bytes (at + 8) (c ∷ []) e → Fail bytes at (a ∷ b ∷ c ∷ is) e
Fail-third bytes at a b c is e p q f =
    Fail-cons bytes at (at + 4) (at + 4) a (b ∷ c ∷ is) e refl p
    (Fail-cons bytes (at + 4) (at + 8) (at + 4 + 4) b (c ∷ is) e (omega arith) q (Fail-then bytes (at + 8) (c ∷ []) is e f))

pub Fail-fourth : (bytes : List ℕ) (at : ℕ) (a b c d : Item) (is : List Item) (e : TabErr) → Pass bytes at (a ∷ []) (at + 4) → Pass bytes (at + 4) (b ∷ []) (at + 4 + 4) → Pass bytes (at + 8) (c ∷ []) (at + 8 + 4)
    → Fail bytes (at + 12) (d ∷ []) e → Fail bytes at (a ∷ b ∷ c ∷ d ∷ is) e
Fail-fourth bytes at a b c d is e p q r f =
    Fail-cons bytes at (at + 4) (at + 4) a (b ∷ c ∷ d ∷ is) e refl p
    (Fail-cons bytes (at + 4) (at + 8) (at + 4 + 4) b (c ∷ d ∷ is) e (omega arith) q
    (Fail-cons bytes (at + 8) (at + 12) (at + 8 + 4) c (d ∷ is) e (omega arith) r (Fail-then bytes (at + 12) (d ∷ []) is e f)))

pub Fail-after_four : (bytes : List ℕ) (at : ℕ) (a b c d : Item) (is : List Item) (e : TabErr) → Pass bytes at (a ∷ []) (at + 4) → Pass bytes (at + 4) (b ∷ []) (at + 4 + 4) → Pass bytes (at + 8) (c ∷ []) (at + 8 + 4)
    → Pass bytes (at + 12) (d ∷ []) (at + 12 + 4) → Fail bytes (at + 16) is e → Fail bytes at (a ∷ b ∷ c ∷ d ∷ is) e
Fail-after_four bytes at a b c d is e p q r s f =
    Fail-cons bytes at (at + 4) (at + 4) a (b ∷ c ∷ d ∷ is) e refl p
    (Fail-cons bytes (at + 4) (at + 8) (at + 4 + 4) b (c ∷ d ∷ is) e (omega arith) q
    (Fail-cons bytes (at + 8) (at + 12) (at + 8 + 4) c (d ∷ is) e (omega arith) r
    (Fail-cons bytes (at + 12) (at + 16) (at + 12 + 4) d is e (omega arith) s f)))

pub Pass-after_four : (bytes : List ℕ) (at next : ℕ) (a b c d : Item) (is : List Item) → Pass bytes at (a ∷ []) (at + 4) → Pass bytes (at + 4) (b ∷ []) (at + 4 + 4) → Pass bytes (at + 8) (c ∷ []) (at + 8 + 4)
    → Pass bytes (at + 12) (d ∷ []) (at + 12 + 4) → Pass bytes (at + 16) is next → Pass bytes at (a ∷ b ∷ c ∷ d ∷ is) next
Pass-after_four bytes at next a b c d is p q r s t =
    Pass-cons bytes at (at + 4) (at + 4) next a (b ∷ c ∷ d ∷ is) refl p
    (Pass-cons bytes (at + 4) (at + 8) (at + 4 + 4) next b (c ∷ d ∷ is) (omega arith) q
    (Pass-cons bytes (at + 8) (at + 12) (at + 8 + 4) next c (d ∷ is) (omega arith) r
    (Pass-cons bytes (at + 12) (at + 16) (at + 12 + 4) next d is (omega arith) s t)))

-- ---- the same item, or the same items, again and again

pub Pass-more : (bytes : List ℕ) (at m n k r : ℕ) (item : Item) → Pass bytes at (replicate k item) m → Pass bytes m (replicate r item) n → Pass bytes at (replicate (k + r) item) n
Pass-more bytes at m n k r item p q =
    subst (λ (xs : List Item). Pass bytes at xs n) (replicate-append-replicate k r item) (Pass-then bytes at m n (replicate k item) (replicate r item) p q)

pub Fail-more : (bytes : List ℕ) (at m k r total : ℕ) (item : Item) (e : TabErr) → k + r ≤ total → Pass bytes at (replicate k item) m → Fail bytes m (replicate r item) e → Fail bytes at (replicate total item) e
Fail-more bytes at m k r total item e le p f =
    let front : Fail bytes at (replicate (k + r) item) e = subst (λ (xs : List Item). Fail bytes at xs e) (replicate-append-replicate k r item) (Pass-fail bytes at m (replicate k item) (replicate r item) e p f) in
    let whole = Fail-then bytes at (replicate (k + r) item) (replicate (total - (k + r)) item) e front in
    let n : (k + r) + (total - (k + r)) ≡ total = omega arith in
    subst (λ (xs : List Item). Fail bytes at xs e) (replicate-append-replicate (k + r) (total - (k + r)) item ∙ ap (λ (j : ℕ). replicate j item) n) whole

-- ---- numbers and columns, one more

pub length-numbers_from : (w : Width) (bytes : List ℕ) (at n : ℕ) → length (numbers_from w bytes at n) ≡ n
length-numbers_from w bytes at zero = refl
length-numbers_from w bytes at (suc n) = ap suc (length-numbers_from w bytes (at + byte_len w) n)

pub numbers_from-more : (w : Width) (bytes : List ℕ) (at n : ℕ) → numbers_from w bytes at (n + 1) ≡ numbers_from w bytes at n ++ number_at w bytes (at + n * byte_len w) ∷ []
numbers_from-more w bytes at zero =
    let e : at + 0 * byte_len w ≡ at = omega arith in
    rw e refl
numbers_from-more w bytes at (suc n) =
    let e : at + byte_len w + n * byte_len w ≡ at + suc n * byte_len w = omega arith in
    let k : suc n + 1 ≡ suc (n + 1) = omega arith in
    rw k (ap (λ (ns : List ℕ). number_at w bytes at ∷ ns) (rw (← e) (numbers_from-more w bytes (at + byte_len w) n)))

pub columns_from-more : (bytes : List ℕ) (at n rows : ℕ) → columns_from bytes at (n + 1) rows ≡ columns_from bytes at n rows ++ numbers_from w64 bytes (at + 8 * (n * rows)) rows ∷ []
columns_from-more bytes at zero rows =
    let e : at + 8 * (0 * rows) ≡ at = omega arith in
    rw e refl
columns_from-more bytes at (suc n) rows =
    let e : at + 8 * rows + 8 * (n * rows) ≡ at + 8 * (suc n * rows) = omega arith in
    let k : suc n + 1 ≡ suc (n + 1) = omega arith in
    rw k (ap (λ (ns : List (List ℕ)). numbers_from w64 bytes at rows ∷ ns) (rw (← e) (columns_from-more bytes (at + 8 * rows) n rows)))
