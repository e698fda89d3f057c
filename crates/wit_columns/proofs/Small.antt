-- The tests' tables have their shapes.
use Rattle.std.proofs.Common.{◌≡◌, ℕ, ◌+◌, ◌^◌, ◌<◌, ◌≤◌, [], ◌∷◌, All, refl, subst, sym, arith}
use Rattle.std.proofs.lemmas.List.Elements.{All-cons, All-nil}
use Rattle.gold.specs.Field.{p, IsCanonical}
use Rattle.gold.specs.declared.instances.Witness.{Witness}
use Rattle.gold.specs.declared.shapes.AirShape.{AirShape}
use Rattle.gold.specs.declared.shapes.Shape.{Shape}
use Rattle.gold.specs.Shapes.{HaveShape, Fits, IsCount}
use Rattle.wit_columns.specs.Small.{wide, narrow, wide_air, narrow_air, three_tables, two_airs, two_tables, three_airs}
use Rattle.std.specs.Prelude.{length, false, true}

one : {X : Type 0} (P : X → Type 0) (x : X) → P x → All P (x ∷ [])
one P x h = All-cons P x [] h (All-nil P)

two : {X : Type 0} (P : X → Type 0) (x y : X) → P x → P y → All P (x ∷ y ∷ [])
two P x y h k = All-cons P x (y ∷ []) h (one P y k)

wide_fits : (a i n : ℕ) → a < 2 ^ 32 → i < 2 ^ 32 → n < 100 → Fits (record { air = a; instance = i; form = wide_air }) (wide a i n)
wide_fits a i n air instance small = record {
  air = refl;
  instance = refl;
  columns = refl;
  rows = two (λ c. length c ≡ 2) (n ∷ (n + 1) ∷ []) ((n + 2) ∷ (n + 3) ∷ []) refl refl;
  canonical = two IsCanonical (n ∷ (n + 1) ∷ []) ((n + 2) ∷ (n + 3) ∷ [])
      (two (λ v. v < p) n (n + 1) (omega (arith, small)) (omega (arith, small)))
      (two (λ v. v < p) (n + 2) (n + 3) (omega (arith, small)) (omega (arith, small)));
  bits = record { air = air; instance = instance; columns = omega arith; rows = omega arith };
}

narrow_fits : (a n : ℕ) → a < 2 ^ 32 → n < 100 → Fits (record { air = a; instance = 0; form = narrow_air }) (narrow a n)
narrow_fits a n air small = record {
  air = refl;
  instance = refl;
  columns = refl;
  rows = one (λ c. length c ≡ 1) (n ∷ []) refl;
  canonical = one IsCanonical (n ∷ []) (one (λ v. v < p) n (omega (arith, small)));
  bits = record { air = air; instance = omega arith; columns = omega arith; rows = omega arith };
}

-- no air is Main in a text's shape
not_main : {P : Type 0} → false ≡ true → P
not_main e = absurd cc

-- an air of a text's shape may have so many instances
some : (count : ℕ) (f : AirShape) (a : ℕ) → count ≤ f.most → count < 2 ^ 32 → IsCount false a f count
some count f a le bits = record { main = λ e. not_main e; most = le; bits = bits }

three : HaveShape two_airs three_tables
three = record {
  profile = refl;
  bits = omega arith;
  counted = (some 2 wide_air 0 (omega arith) (omega arith), (some 1 narrow_air 1 (omega arith) (omega arith), tt));
  filled = (
    wide_fits 0 0 1 (omega arith) (omega arith) (omega arith),
    (wide_fits 0 1 5 (omega arith) (omega arith) (omega arith), (narrow_fits 1 9 (omega arith) (omega arith), tt)),
  );
}

both : HaveShape three_airs two_tables
both = record {
  profile = refl;
  bits = omega arith;
  counted = (
    some 1 wide_air 0 (omega arith) (omega arith),
    (some 0 narrow_air 1 (omega arith) (omega arith), (some 1 narrow_air 2 (omega arith) (omega arith), tt)),
  );
  filled = (wide_fits 0 0 1 (omega arith) (omega arith) (omega arith), (narrow_fits 2 9 (omega arith) (omega arith), tt));
}

pub three_shaped : (shape : Shape) (witness : Witness) → shape ≡ two_airs → witness ≡ three_tables → HaveShape shape witness
three_shaped shape witness airs read = subst (λ (s : Shape). HaveShape s witness) (sym airs) (subst (λ (w : Witness). HaveShape two_airs w) (sym read) three)

pub two_shaped : (shape : Shape) (witness : Witness) → shape ≡ three_airs → witness ≡ two_tables → HaveShape shape witness
two_shaped shape witness airs read = subst (λ (s : Shape). HaveShape s witness) (sym airs) (subst (λ (w : Witness). HaveShape three_airs w) (sym read) both)
