-- The intermediates that a term names.
use Rattle.std.proofs.Common.{ℕ, zero, suc, ◌<◌, ◌⊎◌, inl, inr, List, [], ◌∷◌, length, subst, arith}
use Rattle.std.proofs.lemmas.Bool.{cases_eq}
use Rattle.pil_ast.specs.Term.{Term, num, col, mid, public, opp, ◌⊕◌, ◌⊖◌, ◌⊗◌, Line, inter_at}
use Rattle.pil_ast.specs.Sound.{NamesOnly, Names}

-- what holds of each intermediate that is named holds of one that is
pub named_one : (P : ℕ → Type 0) (e : Term) (j : ℕ) → NamesOnly P e → Names e j → P j
named_one P (num n) j h w = absurd w
named_one P (col s k b) j h w = absurd w
named_one P (mid s k b) j h w = subst P w h
named_one P (public k) j h w = absurd w
named_one P (opp a) j h w = named_one P a j h w
named_one P (a ⊕ b) j h w = elim w as (λ x. P j) [ inl x ↦ named_one P a j h.0 x | inr x ↦ named_one P b j h.1 x ]
named_one P (a ⊖ b) j h w = elim w as (λ x. P j) [ inl x ↦ named_one P a j h.0 x | inr x ↦ named_one P b j h.1 x ]
named_one P (a ⊗ b) j h w = elim w as (λ x. P j) [ inl x ↦ named_one P a j h.0 x | inr x ↦ named_one P b j h.1 x ]

pub named_all : (P : ℕ → Type 0) (e : Term) → ((j : ℕ) → Names e j → P j) → NamesOnly P e
named_all P (num n) h = tt
named_all P (col s k b) h = tt
named_all P (mid s k b) h = h k (λ i. k)
named_all P (public k) h = tt
named_all P (opp a) h = named_all P a h
named_all P (a ⊕ b) h = (named_all P a (λ j w. h j (inl w)), named_all P b (λ j w. h j (inr w)))
named_all P (a ⊖ b) h = (named_all P a (λ j w. h j (inl w)), named_all P b (λ j w. h j (inr w)))
named_all P (a ⊗ b) h = (named_all P a (λ j w. h j (inl w)), named_all P b (λ j w. h j (inr w)))

pub names_weaker : (P Q : ℕ → Type 0) → ((k : ℕ) → P k → Q k) → (e : Term) → NamesOnly P e → NamesOnly Q e
names_weaker P Q f e h = named_all Q e (λ j w. f j (named_one P e j h w))

either : (A B : Type 0) → A ⊎ ¬ A → B ⊎ ¬ B → (A ⊎ B) ⊎ ¬ (A ⊎ B)
either A B p q = elim p as (λ x. (A ⊎ B) ⊎ ¬ (A ⊎ B)) [
  | inl a ↦ inl (inl a)
  | inr na ↦ elim q as (λ x. (A ⊎ B) ⊎ ¬ (A ⊎ B)) [ inl b ↦ inl (inr b) | inr nb ↦ inr (λ w. elim w as (λ x. ⊥) [ inl a ↦ na a | inr b ↦ nb b ]) ]
]

pub names-decided : (e : Term) (j : ℕ) → Names e j ⊎ ¬ Names e j
names-decided (num n) j = inr (λ w. w)
names-decided (col s k b) j = inr (λ w. w)
names-decided (mid s k b) j = cases_eq k j
names-decided (public k) j = inr (λ w. w)
names-decided (opp a) j = names-decided a j
names-decided (a ⊕ b) j = either (Names a j) (Names b j) (names-decided a j) (names-decided b j)
names-decided (a ⊖ b) j = either (Names a j) (Names b j) (names-decided a j) (names-decided b j)
names-decided (a ⊗ b) j = either (Names a j) (Names b j) (names-decided a j) (names-decided b j)

-- what names an intermediate is an item
pub naming_inside : (items : List Line) (a b : ℕ) → Names (inter_at items a) b → a < length items
naming_inside [] a b w = absurd w
naming_inside (l ∷ ls) zero b w = omega arith
naming_inside (l ∷ ls) (suc a) b w = let h = naming_inside ls a b w in omega arith
