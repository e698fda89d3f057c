-- The least of lists of places.
use Rattle.std.proofs.Common.{◌≡◌, ◌∙◌, refl, sym, ap, ℕ, List, [], ◌∷◌, ◌++◌, arith}
use Rattle.std.specs.Prelude.{Option, Some, None}
use Rattle.pil_names.specs.Least.{lesser, least}

pub lesser_assoc : (a b c : Option ℕ) → lesser (lesser a b) c ≡ lesser a (lesser b c)
lesser_assoc None b c = refl
lesser_assoc (Some m) None c = refl
lesser_assoc (Some m) (Some n) None = refl
lesser_assoc (Some m) (Some n) (Some k) = ap Some (omega arith)

pub lesser_none : (a : Option ℕ) → lesser a None ≡ a
lesser_none None = refl
lesser_none (Some m) = refl

-- the least of two lists
pub least-append : (xs ys : List ℕ) → least (xs ++ ys) ≡ lesser (least xs) (least ys)
least-append [] ys = refl
least-append (n ∷ ns) ys = ap (lesser (Some n)) (least-append ns ys) ∙ sym (lesser_assoc (Some n) (least ns) (least ys))

-- the least of four lists, one after the other
pub least-four : (a b c d : List ℕ) (la lb lc ld x y z : Option ℕ) → la ≡ least a → lb ≡ least b → lc ≡ least c → ld ≡ least d → x ≡ lesser lc ld → y ≡ lesser lb x → z ≡ lesser la y → z ≡ least (a ++ (b ++ (c ++ d)))
least-four a b c d la lb lc ld x y z ea eb ec ed ex ey ez = cc (least-append a (b ++ (c ++ d)), least-append b (c ++ d), least-append c d)
