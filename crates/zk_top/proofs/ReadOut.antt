-- A file that was opened, and read to its end.
use Rattle.std.proofs.Common.{◌≡◌, ◌==◌, ◌⊎◌, inl, inr, ℕ, ◌≤◌, Bool, true, false, cond, List, [], ◌∷◌, ◌++◌, length, drop, Some, refl, sym, ap, ◌∙◌, arith}
use Rattle.std.proofs.lemmas.Bool.{eq-eqb}
use Rattle.std.proofs.lemmas.List.{drop_all}
use Rattle.host_io.specs.World.{World, Opened, after_open, after_read}
use Rattle.host_io.specs.Calls.{HasGiven, HasReadFront, Opens}
use Rattle.zk_top.specs.Ends.{AreReadOut, Asks, AsksAtMost}
use Rattle.zk_top.specs.Parts.{IsRead, IsReadInto}

-- what the opened slot has left, and what is left of it and of any other after its bytes were taken
here : (b : Bool) (bytes other : List ℕ) → b ≡ true → cond b bytes other ≡ bytes
here true bytes other e = refl
here false bytes other e = absurd cc

taken_out : (b : Bool) (bytes other : List ℕ) → (cond b (drop (length bytes) (cond b bytes other)) (cond b bytes other) ≡ other) ⊎ (cond b (drop (length bytes) (cond b bytes other)) (cond b bytes other) ≡ [])
taken_out true bytes other = inr (drop_all (length bytes) bytes (omega arith))
taken_out false bytes other = inl refl

opened_left : (name : List ℕ) (slot : ℕ) (old mid : World) (opens : Opens old mid name slot) → mid.left slot ≡ opens.bytes
opened_left name slot old mid opens = ap (λ (w : World). w.left slot) opens.after ∙ here (slot == slot) opens.bytes (old.left slot) (eq-eqb slot slot refl)

read_out : (name bytes : List ℕ) (slot : ℕ) (old mid new : World) (opens : Opens old mid name slot) → bytes ≡ opens.bytes → new ≡ after_read mid slot (length bytes) → AreReadOut old new
read_out name bytes slot old mid new opens is after = λ n.
    let e : new ≡ after_read (after_open old name slot opens.bytes) slot (length opens.bytes) = after ∙ ap (λ (xs : List ℕ). after_read mid slot (length xs)) is ∙ ap (λ (w : World). after_read w slot (length opens.bytes)) opens.after in
    elim (taken_out (n == slot) opens.bytes (old.left n)) [
      | inl same ↦ inl (ap (λ (w : World). w.left n) e ∙ same)
      | inr none ↦ inr (ap (λ (w : World). w.left n) e ∙ none)
    ]

asks_opened : (name : List ℕ) (slot count : ℕ) (old mid new : World) → Opens old mid name slot → new ≡ after_read mid slot count → Asks (Opened name ∷ []) old new
asks_opened name slot count old mid new opens after = record {
  asked = ap (λ (w : World). w.asked) after ∙ ap (λ (w : World). w.asked) opens.after;
  reported = ap (λ (w : World). w.reported) after ∙ ap (λ (w : World). w.reported) opens.after;
  contents = ap (λ (w : World). w.contents) after ∙ ap (λ (w : World). w.contents) opens.after;
}

-- it was opened, and a front of it read
pub is_asked : (name : List ℕ) (slot : ℕ) (old mid new : World) → Opens old mid name slot → HasReadFront mid new slot → AsksAtMost (Opened name ∷ []) old new
is_asked name slot old mid new opens front = record { some = 1; asks = asks_opened name slot front.count old mid new opens front.after }

pub is_read : (name bytes : List ℕ) (slot limit : ℕ) (old mid new : World) → Opens old mid name slot → bytes ≡ mid.left slot → new ≡ after_read mid slot (length bytes) → length bytes ≤ limit → IsRead (Opened name) (old.contents name) limit bytes old new
is_read name bytes slot limit old mid new opens all after fits =
    let is : bytes ≡ opens.bytes = all ∙ opened_left name slot old mid opens in
    record {
      found = opens.found ∙ ap (λ (xs : List ℕ). Some xs) (sym is);
      fits = fits;
      asks = asks_opened name slot (length bytes) old mid new opens after;
      read = read_out name bytes slot old mid new opens is after;
    }

pub read_into : {A : Type 0} (before now : A → List ℕ → Type 0) (tells : Type 0) (name : List ℕ) (slot limit : ℕ) (old mid new : World) → Opens old mid name slot → tells → HasGiven limit before now tells mid new slot
    → IsReadInto before now (Opened name) (old.contents name) limit old new
read_into before now tells name slot limit old mid new opens told g = record {
  bytes = g.bytes;
  is_read = is_read name g.bytes slot limit old mid new opens (g.all told) (g.taken told) g.fits;
  given = g.given;
}
