-- The publics of accepted tables have 32 bits.
use Rattle.std.proofs.Common.{ℕ, zero, suc, ◌≡◌, ◌<◌, ◌+◌, ◌*◌, ◌/◌, ◌%◌, ◌^◌, ◌⊎◌, List, ◌++◌, flat_map, refl, ap, subst, ⊎_elim, arith}
use Rattle.std.specs.List.{range_with_len}
use Rattle.std.specs.Int.{to_le_bytes, w64}
use Rattle.gold.specs.declared.instances.Witness.{Witness}
use Rattle.rv_model.specs.Image.{Img, IsLoadable}
use Rattle.rv_model.specs.declared.answer.Public.{Public}
use Rattle.pil_ast.specs.Value.{public_value}
use Rattle.air_main.specs.Step.{joined}
use Rattle.machine_text.specs.Machine.{machine}
use Rattle.air_mem.specs.Constants.{OutConstantsLaw}
use Rattle.air_mem.specs.Laws.{OutPublics}
use Rattle.zk_layout.specs.Air.{air_number}
use Rattle.main_run.specs.Headline.{Headline, PublicsAreOuts, told}
use Rattle.main_run.specs.Whole.{IsMachine, MachineLaw}
use Rattle.machine_columns.specs.Values.{sizes_of, values_of}
use Rattle.machine_columns.specs.Accepted.{AreAccepted, AreWellFormed, public_of, published}
use Rattle.machine_columns.proofs.Counts.{counts}
use Rattle.machine_columns.proofs.Machine.{out_constants}

-- the law of the machine's columns, and the one of main_run
pub record PublicLaws : Type 0 where
  pub columns : (image : Img) (w : Witness) → IsLoadable image → AreWellFormed w → IsMachine image (sizes_of w) (values_of image w)
  pub machine : MachineLaw

pub one_out : (image : Img) (w : Witness) → AreWellFormed w → (values_of image w).instances 8 ≡ 1
unfolding air_number
one_out image w h = (counts w h).out

pub publics_outs : OutConstantsLaw → OutPublics → (image : Img) (w : Witness) → AreWellFormed w → PublicsAreOuts (machine w.profile) (values_of image w)
publics_outs constants outs image w h = outs w.profile (values_of image w) (constants image (sizes_of w) (values_of image w) (out_constants image w) (one_out image w h))

headline : PublicLaws → (image : Img) (w : Witness) → IsLoadable image → AreWellFormed w → AreAccepted image w → Headline (machine w.profile) (values_of image w) image
unfolding AreAccepted
headline laws image w loadable h accepted = laws.machine image (sizes_of w) (values_of image w) loadable (laws.columns image w loadable h) accepted

even_or_odd : (k : ℕ) → (2 * (k / 2) ≡ k) ⊎ (2 * (k / 2) + 1 ≡ k)
even_or_odd k = grind arith

half : (k : ℕ) → k < 66 → k / 2 < 33
half k h = omega arith

pub publics_below : PublicLaws → (image : Img) (w : Witness) → IsLoadable image → AreWellFormed w → AreAccepted image w → (k : ℕ) → k < 66 → published image w k < 2 ^ 32
publics_below laws image w loadable h accepted k l =
    let limbs = (headline laws image w loadable h accepted).limbs (k / 2) (half k l) in
    ⊎_elim (λ e. subst (λ n. published image w n < 2 ^ 32) e limbs.0) (λ e. subst (λ n. published image w n < 2 ^ 32) e limbs.1) (even_or_odd k)

-- ---- what is told of the same limbs

abbrev public_with : ℕ → List ℕ → Public
public_with a x = record { exit = a; output = x }

same_public : (a b : ℕ) (x y : List ℕ) → a ≡ b → x ≡ y → public_with a x ≡ public_with b y
same_public a b x y e h = subst (λ z. public_with a x ≡ public_with z y) e (ap (public_with a) h)

-- pieces of a list that are the same
same_pieces : (f g : ℕ → List ℕ) (a n : ℕ) → ((k : ℕ) → k < a + n → f k ≡ g k) → flat_map f (range_with_len a n) ≡ flat_map g (range_with_len a n)
same_pieces f g a zero h = refl
same_pieces f g a (suc n) h = both (f a) (g a) _ _ (h a (omega arith)) (same_pieces f g (a + 1) n (λ k l. h k (omega arith)))
  where
    both : (x y xs ys : List ℕ) → x ≡ y → xs ≡ ys → x ++ xs ≡ y ++ ys
    both x y xs ys e h = cc

joined_same : (a b x y : ℕ) → a ≡ x → b ≡ y → joined a b ≡ joined x y
joined_same a b x y e h = omega arith

told_same : (v w : ℕ → ℕ) → ((k : ℕ) → k < 66 → v k ≡ w k) → told v ≡ told w
told_same v w h =
    same_public _ _ _ _ (joined_same _ _ _ _ (h 0 (omega arith)) (h 1 (omega arith)))
    (same_pieces (λ k. to_le_bytes w64 (joined (v (2 * (k + 1))) (v (2 * (k + 1) + 1)))) (λ k. to_le_bytes w64 (joined (w (2 * (k + 1))) (w (2 * (k + 1) + 1)))) 0 32 (λ k l. ap (to_le_bytes w64) (joined_same _ _ _ _ (h (2 * (k + 1)) (omega arith)) (h (2 * (k + 1) + 1) (omega arith)))))

same_low : (n : ℕ) → n < 2 ^ 32 → n % 2 ^ 32 ≡ n
same_low n h = omega arith

pub public_is : PublicLaws → (image : Img) (w : Witness) → IsLoadable image → AreWellFormed w → AreAccepted image w
    → public_of image w ≡ told (public_value (machine w.profile) (values_of image w))
public_is laws image w loadable h accepted =
    told_same (λ k. published image w k % 2 ^ 32) (public_value (machine w.profile) (values_of image w)) (λ k l. same_low _ (publics_below laws image w loadable h accepted k l))
