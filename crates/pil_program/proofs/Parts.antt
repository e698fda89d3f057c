-- What holds of each part of a term.
use Rattle.std.proofs.Common.{ℕ, Bool}
use Rattle.pil_ast.specs.Term.{Term, num, col, mid, public, opp, ◌⊕◌, ◌⊖◌, ◌⊗◌}
use Rattle.pil_ast.specs.Sound.{Each, NamesOnly}

-- a fact of each part from two facts of each part
pub each_from_two : (N N' N'' : ℕ → Type 0) (C C' C'' M M' M'' : ℕ → ℕ → Bool → Type 0) (G G' G'' : ℕ → Type 0) → ((n : ℕ) → N n → N' n → N'' n) → ((s k : ℕ) (b : Bool) → C s k b → C' s k b → C'' s k b) → ((s k : ℕ) (b : Bool) → M s k b → M' s k b → M'' s k b) → ((k : ℕ) → G k → G' k → G'' k) → (e : Term) → Each N C M G e → Each N' C' M' G' e → Each N'' C'' M'' G'' e
each_from_two N N' N'' C C' C'' M M' M'' G G' G'' n c m g (num k) x y = n k x y
each_from_two N N' N'' C C' C'' M M' M'' G G' G'' n c m g (col s k b) x y = c s k b x y
each_from_two N N' N'' C C' C'' M M' M'' G G' G'' n c m g (mid s k b) x y = m s k b x y
each_from_two N N' N'' C C' C'' M M' M'' G G' G'' n c m g (public k) x y = g k x y
each_from_two N N' N'' C C' C'' M M' M'' G G' G'' n c m g (opp a) x y = each_from_two N N' N'' C C' C'' M M' M'' G G' G'' n c m g a x y
each_from_two N N' N'' C C' C'' M M' M'' G G' G'' n c m g (a ⊕ b) x y =
    (each_from_two N N' N'' C C' C'' M M' M'' G G' G'' n c m g a x.0 y.0, each_from_two N N' N'' C C' C'' M M' M'' G G' G'' n c m g b x.1 y.1)
each_from_two N N' N'' C C' C'' M M' M'' G G' G'' n c m g (a ⊖ b) x y =
    (each_from_two N N' N'' C C' C'' M M' M'' G G' G'' n c m g a x.0 y.0, each_from_two N N' N'' C C' C'' M M' M'' G G' G'' n c m g b x.1 y.1)
each_from_two N N' N'' C C' C'' M M' M'' G G' G'' n c m g (a ⊗ b) x y =
    (each_from_two N N' N'' C C' C'' M M' M'' G G' G'' n c m g a x.0 y.0, each_from_two N N' N'' C C' C'' M M' M'' G G' G'' n c m g b x.1 y.1)

-- a fact of each part from a fact of each part
pub each_from : (N N' : ℕ → Type 0) (C C' M M' : ℕ → ℕ → Bool → Type 0) (G G' : ℕ → Type 0) → ((n : ℕ) → N n → N' n) → ((s k : ℕ) (b : Bool) → C s k b → C' s k b) → ((s k : ℕ) (b : Bool) → M s k b → M' s k b) → ((k : ℕ) → G k → G' k) → (e : Term) → Each N C M G e → Each N' C' M' G' e
each_from N N' C C' M M' G G' n c m g e x =
    each_from_two N N N' C C C' M M M' G G G' (λ k a b. n k a) (λ s k b p q. c s k b p) (λ s k b p q. m s k b p) (λ k a b. g k a) e x x

pub names_weaker : (P Q : ℕ → Type 0) → ((k : ℕ) → P k → Q k) → (e : Term) → NamesOnly P e → NamesOnly Q e
names_weaker P Q f e h =
    each_from (λ n. Unit {0}) (λ n. Unit {0}) (λ s k b. Unit {0}) (λ s k b. Unit {0}) (λ s k b. P k) (λ s k b. Q k) (λ k. Unit {0}) (λ k. Unit {0})
    (λ n x. x) (λ s k b x. x) (λ s k b x. f k x) (λ k x. x) e h
