-- Blanks and comments in words: what is passed over ends where it should, and nothing else is.
use Rattle.std.proofs.Common.{◌≡◌, ℕ, zero, suc, ◌+◌, ◌<◌, inl, inr, List, [], ◌∷◌, length, take, drop, Bool, true, false, Option, Some, None, not, nat_eq, codes, take_while, refl, ap, subst, sym, ◌∙◌, arith}
use Rattle.std.specs.List.{list_all, starts_with, prefix_len}
use Rattle.std.proofs.lemmas.List.Folds.{length-prefix_len}
use Rattle.std.proofs.lemmas.Grind.{common_steps}
use Rattle.pil_token.specs.Tokens.{is_blank, is_feed, closed, further}
use Rattle.pil_token.specs.Longest.{ClosesAt, EndsAtFeed, IsLineComment, IsBlockComment, IsPassedOver}
use Rattle.pil_token.proofs.Fronts.{all_front, take_front, starts_byte}
use Rattle.pil_token.proofs.Pieces.{chosen}
use Rattle.pil_token.proofs.Spelled.{both}

-- the first `*/`, or none
abbrev pub ClosedBy : List ℕ → Option ℕ → Type 0
ClosedBy bs None = (j : ℕ) → ClosesAt bs j → ⊥
ClosedBy bs (Some m) = (i : ℕ) × (m ≡ i + 2) × ClosesAt bs i × ((j : ℕ) → j < i → ClosesAt bs j → ⊥)

pub no_longer : (c : Bool) → c ≡ false → c ≡ true → ⊥
no_longer true e h = let x : true ≡ false = e in absurd (cc)
no_longer false e h = let x : false ≡ true = h in absurd (cc)

one_further : (b : ℕ) (bs : List ℕ) (o : Option ℕ) → starts_with nat_eq (b ∷ bs) (codes "*/") ≡ false → ClosedBy bs o → ClosedBy (b ∷ bs) (further 1 o)
one_further b bs None absent h = λ j. none j
  where
    none : (j : ℕ) → ClosesAt (b ∷ bs) j → ⊥
    none zero e = no_longer (starts_with nat_eq (b ∷ bs) (codes "*/")) absent e
    none (suc j) e = h j e
one_further b bs (Some m) absent h = (suc (h.0), omega (arith, h.1), h.2, λ j. none j)
  where
    none : (j : ℕ) → j < suc (h.0) → ClosesAt (b ∷ bs) j → ⊥
    none zero lt e = no_longer (starts_with nat_eq (b ∷ bs) (codes "*/")) absent e
    none (suc j) lt e = h.3 j (omega (arith, lt)) e

nothing_closes : (j : ℕ) → ClosesAt [] j → ⊥
nothing_closes zero e = let x : false ≡ true = e in absurd (cc)
nothing_closes (suc j) e = let x : false ≡ true = e in absurd (cc)

pub closed_by : (bs : List ℕ) → ClosedBy bs (closed bs)
closed_by [] = nothing_closes
closed_by (b ∷ bs) =
    chosen (ClosedBy (b ∷ bs)) (starts_with nat_eq (b ∷ bs) (codes "*/")) (Some 2) (further 1 (closed bs))
    (λ e. (0, refl, e, λ j lt _. absurd (omega (arith, lt))))
    (λ absent. one_further b bs (closed bs) absent (closed_by bs))

abbrev pub no_feed : ℕ → Bool
no_feed c = not (is_feed c)

-- behind the bytes before a line feed is a line feed, or nothing
feed_behind : (b : ℕ) (bs : List ℕ) (c : Bool) → is_feed b ≡ c → EndsAtFeed (drop (prefix_len no_feed bs) bs) → EndsAtFeed (drop (prefix_len no_feed (b ∷ bs)) (b ∷ bs))
feed_behind b bs true e more = rw e (let n : b ≡ 10 = grind (arith, common_steps, e) in n)
feed_behind b bs false e more = rw e (let one : 1 + prefix_len no_feed bs ≡ suc (prefix_len no_feed bs) = omega arith in rw one more)

line_ends : (bs : List ℕ) → EndsAtFeed (drop (prefix_len no_feed bs) bs)
line_ends [] = tt
line_ends (b ∷ bs) = feed_behind b bs (is_feed b) refl (line_ends bs)

-- a slash, and the bytes behind it
pub line_passed : (bs : List ℕ) → starts_with nat_eq bs (codes "/") ≡ true → IsLineComment (47 ∷ bs) (1 + length (take_while no_feed bs))
line_passed bs e =
    let one : 1 + length (take_while no_feed bs) ≡ suc (length (take_while no_feed bs)) = omega arith in
    let P : List ℕ → Type 0 = λ l. list_all no_feed l ≡ true in
    let front : list_all no_feed (take (length (take_while no_feed bs)) bs) ≡ true = subst P (sym (take_front no_feed bs)) (all_front no_feed bs) in (
      e,
      rw one front,
      rw (one, length-prefix_len) (line_ends bs),
    )

pub block_passed : (bs : List ℕ) (m : ℕ) → starts_with nat_eq bs (codes "*") ≡ true → closed (drop 1 bs) ≡ Some m → IsBlockComment (47 ∷ bs) (m + 2)
block_passed bs m e found =
    let h : ClosedBy (drop 1 bs) (Some m) = (let P : Option ℕ → Type 0 = λ o. ClosedBy (drop 1 bs) o in subst P found (closed_by (drop 1 bs))) in
    (e, h.0, omega (arith, h.1), h.2, h.3)

-- bytes that are no blank, and no comment
pub not_passed : (b : ℕ) (bs : List ℕ) → is_blank b ≡ false
    → ((nat_eq 47 b ≡ true) → starts_with nat_eq bs (codes "/") ≡ true → ⊥)
    → ((nat_eq 47 b ≡ true) → starts_with nat_eq bs (codes "*") ≡ true → (j : ℕ) → ClosesAt (drop 1 bs) j → ⊥)
    → (n : ℕ) → IsPassedOver (b ∷ bs) n → ⊥
not_passed b bs blank line block n (inl h) = no_longer (is_blank b) blank (ap is_blank (starts_byte b h.0 bs [] n h.1) ∙ h.2)
not_passed b bs blank line block n (inr (inl h)) = let parts = both (nat_eq 47 b) (starts_with nat_eq bs (codes "/")) h.0 in line parts.0 parts.1
not_passed b bs blank line block n (inr (inr h)) = let parts = both (nat_eq 47 b) (starts_with nat_eq bs (codes "*")) h.0 in block parts.0 parts.1 h.1 h.3
