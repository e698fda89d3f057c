-- What has passed or failed in the bytes so far has passed or failed whatever follows.
use Rattle.std.proofs.Common.{◌≡◌, ◌≢◌, ℕ, zero, suc, ◌+◌, ◌*◌, ◌-◌, ◌≤◌, ◌<◌, Bool, true, false, cond, ltb, List, [], ◌∷◌, ◌++◌, length, take, drop, Option, None, Some, refl, sym, ap, subst, ◌∙◌, append_assoc, arith}
use Rattle.std.specs.Option.{option_or}
use Rattle.std.specs.Int.{Width, w32, byte_len, from_le_bytes}
use Rattle.std.specs.List.{AllByRecursion}
use Rattle.std.proofs.lemmas.Bool.{ltb-true, ltb-false, lt-ltb, le-ltb}
use Rattle.std.proofs.lemmas.List.{drop-append-le, take-append-le, length-drop, length-append, append-nil}
use Rattle.tab_file.specs.declared.fault.TabErr.{TabErr}
use Rattle.tab_file.specs.declared.fault.TabKind.{TabKind}
use Rattle.tab_file.specs.declared.fault.TabKind.TheVariants.{Short, Trailing, BadAir, BadMagic}
use Rattle.tab_file.specs.Items.{Item, failure, number_at, wrong_at, first_failure}
use Rattle.tab_file.specs.Reading.{numbers_from}
use Rattle.tab_file.specs.Steps.{Pass, Fail, out_of_memory}
use Rattle.tab_file.specs.Front.{AllPass}
use Rattle.tab_file.proofs.Takes.{not_short}

-- ---- numbers

pub number_stays : (w : Width) (bytes more : List ℕ) (at : ℕ) → at + byte_len w ≤ length bytes → number_at w (bytes ++ more) at ≡ number_at w bytes at
number_stays w bytes more at le =
    let inside : at ≤ length bytes = omega (arith, le) in
    let room : byte_len w ≤ length (drop at bytes) = omega (arith, le, length-drop at bytes) in
    ap (λ (xs : List ℕ). from_le_bytes w (take (byte_len w) xs)) (drop-append-le at bytes more inside) ∙ ap (from_le_bytes w) (take-append-le (byte_len w) (drop at bytes) more room)

pub numbers_stay : (w : Width) (bytes more : List ℕ) (at n : ℕ) → at + n * byte_len w ≤ length bytes → numbers_from w (bytes ++ more) at n ≡ numbers_from w bytes at n
numbers_stay w bytes more at zero le = refl
numbers_stay w bytes more at (suc n) le =
    let first : at + byte_len w ≤ length bytes = omega (arith, le) in
    let later : at + byte_len w + n * byte_len w ≤ length bytes = omega (arith, le) in
    ap (λ (v : ℕ). v ∷ numbers_from w (bytes ++ more) (at + byte_len w) n) (number_stays w bytes more at first)
    ∙ ap (λ (vs : List ℕ). number_at w bytes at ∷ vs) (numbers_stay w bytes more (at + byte_len w) n later)

-- ---- one item

-- an item that is wrong in this way wherever it stands
abbrev bad : TabKind → Item
bad kind = record { width = w32; wrong = λ at v. Some (failure kind at) }

some_same : (a b : TabErr) → Some a ≡ Some b → a ≡ b
some_same a b e = cc

trailing_short : {k : TabKind} → Trailing ≡ k → Short ≡ k → ⊥
trailing_short a b = cc

trailing_bad : {k : TabKind} → Trailing ≡ k → BadMagic ≡ k → ⊥
trailing_bad a b = cc

failed_kind : (a b : TabErr) → Some a ≡ Some b → a.kind ≡ b.kind
failed_kind a b e = cc

pub never_constant : (bytes : List ℕ) (at : ℕ) (e : TabErr) → ((more : List Item) → first_failure bytes at more ≡ Some e) → ⊥
never_constant bytes at e h =
    elim (ltb at (length bytes)) as (λ b. cond b (Some (failure Trailing at)) None ≡ Some e → ⊥) [
      | true ↦ λ t. elim (ltb (length bytes) (at + 4)) as (λ b. option_or (cond b (Some (failure Short (length bytes))) (Some (failure BadMagic at))) (first_failure bytes (at + 4) []) ≡ Some e → ⊥) [
        | true ↦ λ s. trailing_short (failed_kind (failure Trailing at) e t) (failed_kind (failure Short (length bytes)) e s)
        | false ↦ λ s. trailing_bad (failed_kind (failure Trailing at) e t) (failed_kind (failure BadMagic at) e s)
      ] (h (bad BadMagic ∷ []))
      | false ↦ λ t. absurd cc
    ] (h [])

-- ---- items that pass

pub AllPass-Pass : (bytes : List ℕ) (at : ℕ) (items : List Item) → AllPass bytes at items → (next : ℕ) × ((more : List Item) → first_failure bytes at (items ++ more) ≡ first_failure bytes next more)
AllPass-Pass bytes at [] h = (at, λ more. refl)
AllPass-Pass bytes at (i ∷ is) h =
    let rest = AllPass-Pass bytes (at + byte_len i.width) is h.1 in
    (rest.0, λ more. ap (λ (o : Option TabErr). option_or o (first_failure bytes (at + byte_len i.width) (is ++ more))) h.0 ∙ rest.1 more)

pub Fail-AllPass : (bytes : List ℕ) (at : ℕ) (items : List Item) (e : TabErr) → e ≢ out_of_memory → Fail bytes at items e → AllPass bytes at items → ⊥
Fail-AllPass bytes at items e other f h =
    let p = AllPass-Pass bytes at items h in
    never_constant bytes p.0 e (λ more. sym (p.1 more) ∙ f other more)

pub Pass-AllPass : (bytes : List ℕ) (at next : ℕ) (items : List Item) → ((more : List Item) → first_failure bytes at (items ++ more) ≡ first_failure bytes next more) → AllPass bytes at items
Pass-AllPass bytes at next [] h = tt
Pass-AllPass bytes at next (i ∷ is) h =
    let none : wrong_at bytes at i ≡ None = elim (wrong_at bytes at i) as (λ o. ((more : List Item) → option_or o (first_failure bytes (at + byte_len i.width) (is ++ more)) ≡ first_failure bytes next more) → o ≡ None) [
      | None ↦ λ g. refl
      | Some e ↦ λ g. absurd (never_constant bytes next e (λ more. sym (g more)))
    ] h in
    (none, Pass-AllPass bytes (at + byte_len i.width) next is (λ more. ap (λ (o : Option TabErr). option_or o (first_failure bytes (at + byte_len i.width) (is ++ more))) (sym none) ∙ h more))

pub AllPass-front : (bytes : List ℕ) (at : ℕ) (xs ys : List Item) → AllPass bytes at (xs ++ ys) → AllPass bytes at xs
AllPass-front bytes at [] ys h = tt
AllPass-front bytes at (x ∷ xs) ys h = (h.0, AllPass-front bytes (at + byte_len x.width) xs ys h.1)

-- ---- whatever follows

wrong_stays : (bytes more : List ℕ) (at : ℕ) (item : Item) (o : Option TabErr) → at + byte_len item.width ≤ length bytes → wrong_at bytes at item ≡ o → wrong_at (bytes ++ more) at item ≡ o
wrong_stays bytes more at item o le h =
    let longer : at + byte_len item.width ≤ length (bytes ++ more) = omega (arith, le, length-append bytes more) in
    rw (le-ltb (length (bytes ++ more)) (at + byte_len item.width) longer, number_stays item.width bytes more at le)
    (ap (λ (b : Bool). cond b (Some (failure Short (length bytes))) (item.wrong at (number_at item.width bytes at))) (sym (le-ltb (length bytes) (at + byte_len item.width) le)) ∙ h)

whole_if_right : (bytes : List ℕ) (at : ℕ) (item : Item) → wrong_at bytes at item ≡ None → at + byte_len item.width ≤ length bytes
whole_if_right bytes at item h = ltb-false (length bytes) (at + byte_len item.width) (not_short (ltb (length bytes) (at + byte_len item.width)) (failure Short (length bytes)) (item.wrong at (number_at item.width bytes at)) h).0

whole_if_wrong : (bytes : List ℕ) (at : ℕ) (item : Item) (e : TabErr) → e.kind ≢ Short → wrong_at bytes at item ≡ Some e → at + byte_len item.width ≤ length bytes
whole_if_wrong bytes at item e kind h =
    elim (ltb (length bytes) (at + byte_len item.width)) as (λ b. ltb (length bytes) (at + byte_len item.width) ≡ b → cond b (Some (failure Short (length bytes))) (item.wrong at (number_at item.width bytes at)) ≡ Some e → at + byte_len item.width ≤ length bytes) [
      | true ↦ λ t w. absurd (kind (sym (failed_kind (failure Short (length bytes)) e w)))
      | false ↦ λ t w. ltb-false (length bytes) (at + byte_len item.width) t
    ] refl h

pub AllPass-on : (bytes more : List ℕ) (at : ℕ) (items : List Item) → AllPass bytes at items → AllPass (bytes ++ more) at items
AllPass-on bytes more at [] h = tt
AllPass-on bytes more at (i ∷ is) h = (wrong_stays bytes more at i None (whole_if_right bytes at i h.0) h.0, AllPass-on bytes more (at + byte_len i.width) is h.1)

pub Fail-on : (bytes more : List ℕ) (at : ℕ) (items : List Item) (e : TabErr) → e ≢ out_of_memory → e.kind ≢ Short → Fail bytes at items e → Fail (bytes ++ more) at items e
Fail-on bytes more at [] e other kind f = λ _. absurd (never_constant bytes at e (λ rest. f other rest))
Fail-on bytes more at (i ∷ is) e other kind f =
    elim (wrong_at bytes at i) as (λ o. wrong_at bytes at i ≡ o → Fail (bytes ++ more) at (i ∷ is) e) [
      | None ↦ λ none.
          let later : Fail (bytes ++ more) (at + byte_len i.width) is e = Fail-on bytes more (at + byte_len i.width) is e other kind (λ _ rest. ap (λ (o : Option TabErr). option_or o (first_failure bytes (at + byte_len i.width) (is ++ rest))) (sym none) ∙ f other rest) in
          let here = wrong_stays bytes more at i None (whole_if_right bytes at i none) none in
          λ _ rest. ap (λ (o : Option TabErr). option_or o (first_failure (bytes ++ more) (at + byte_len i.width) (is ++ rest))) here ∙ later other rest
      | Some d ↦ λ some.
          let same : Some d ≡ Some e = ap (λ (o : Option TabErr). option_or o (first_failure bytes (at + byte_len i.width) (is ++ []))) (sym some) ∙ f other [] in
          let wrong : wrong_at bytes at i ≡ Some e = some ∙ same in
          let here = wrong_stays bytes more at i (Some e) (whole_if_wrong bytes at i e kind wrong) wrong in
          λ _ rest. ap (λ (o : Option TabErr). option_or o (first_failure (bytes ++ more) (at + byte_len i.width) (is ++ rest))) here
    ] refl

-- ---- where the items end

abbrev pub items_len : List Item → ℕ
items_len [] = 0
items_len (i ∷ is) = byte_len i.width + items_len is

pub AllPass-len : (bytes : List ℕ) (at : ℕ) (items : List Item) → at ≤ length bytes → AllPass bytes at items → Pass bytes at items (at + items_len items)
AllPass-len bytes at [] le h =
    let e : at + 0 ≡ at = omega arith in
    record { whole = omega (arith, le); rest = λ more. rw e refl }
AllPass-len bytes at (i ∷ is) le h =
    let rest = AllPass-len bytes (at + byte_len i.width) is (whole_if_right bytes at i h.0) h.1 in
    let e : at + byte_len i.width + items_len is ≡ at + (byte_len i.width + items_len is) = omega arith in
    record {
      whole = omega (arith, rest.whole);
      rest = λ more. ap (λ (o : Option TabErr). option_or o (first_failure bytes (at + byte_len i.width) (is ++ more))) h.0 ∙ rest.rest more ∙ ap (λ (m : ℕ). first_failure bytes m more) e;
    }

-- ---- an item that isn't whole

-- what is wrong with the item's number isn't that it isn't whole
pub record IsWholeItem (item : Item) : Type 0 where
  pub not_short : (at v : ℕ) (e : TabErr) → item.wrong at v ≡ Some e → e.kind ≢ Short

abbrev pub AreWholeItems : List Item → Type 0
AreWholeItems items = AllByRecursion IsWholeItem items

pub short_where : (bytes : List ℕ) (at : ℕ) (items : List Item) (e : TabErr) → AreWholeItems items → first_failure bytes at items ≡ Some e → e.kind ≡ Short → (e ≡ failure Short (length bytes)) × (length bytes < at + items_len items)
short_where bytes at [] e h f kind =
    elim (ltb at (length bytes)) as (λ b. cond b (Some (failure Trailing at)) None ≡ Some e → (e ≡ failure Short (length bytes)) × (length bytes < at + 0)) [
      | true ↦ λ t. absurd (trailing_short (failed_kind (failure Trailing at) e t) (sym kind))
      | false ↦ λ t. absurd cc
    ] f
short_where bytes at (i ∷ is) e h f kind =
    elim (ltb (length bytes) (at + byte_len i.width)) as (λ b. ltb (length bytes) (at + byte_len i.width) ≡ b → option_or (cond b (Some (failure Short (length bytes))) (i.wrong at (number_at i.width bytes at))) (first_failure bytes (at + byte_len i.width) is) ≡ Some e
    → (e ≡ failure Short (length bytes)) × (length bytes < at + (byte_len i.width + items_len is))) [
      | true ↦ λ t g.
          let lt : length bytes < at + byte_len i.width = ltb-true (length bytes) (at + byte_len i.width) t in
          (sym (some_same (failure Short (length bytes)) e g), omega (arith, lt))
      | false ↦ λ t g. elim (i.wrong at (number_at i.width bytes at)) as (λ o. i.wrong at (number_at i.width bytes at) ≡ o → option_or o (first_failure bytes (at + byte_len i.width) is) ≡ Some e
          → (e ≡ failure Short (length bytes)) × (length bytes < at + (byte_len i.width + items_len is))) [
            | None ↦ λ none g2.
                let later = short_where bytes (at + byte_len i.width) is e h.1 g2 kind in
                (later.0, omega (arith, later.1))
            | Some d ↦ λ some g2. absurd (h.0.not_short at (number_at i.width bytes at) d some (ap (λ (x : TabErr). x.kind) (some_same d e g2) ∙ kind))
          ] refl g
    ] refl f
