-- What each call of the host in memory makes of its world.
use Rattle.std.proofs.Common.{◌≡◌, ◌<◌, ℕ, List, [], ◌∷◌, ◌++◌, length, set, drop, refl, ap, ◌∙◌, Some, Option}
use Rattle.std.specs.Prelude.{slice_get}
use Rattle.std.specs.Option.{option_map}
use mathlib.Core.Path.{fun_ext}
use Rattle.host_io.specs.Slots.{at_slots}
use Rattle.host_io.specs.World.{World, Asked, Opened, Created, with_file, after_open, after_create, after_read, after_write}
use Rattle.host_io.specs.Memory.{SlotState, Reading, Writing, left_of, written_of, target_of}
use Rattle.host_io.proofs.SlotLists.{same_push, same_set, pushed, changed}

-- the world of these files and slots
abbrev pub mem_world : (List ℕ → Option (List ℕ)) → List SlotState → List Asked → List ℕ → World
mem_world contents slots asked reported = record {
  contents = contents;
  left = at_slots left_of slots;
  written = at_slots written_of slots;
  target = at_slots target_of slots;
  reported = reported;
  asked = asked;
}

same_parts : (w : World) (l l' w0 w1 t t' : ℕ → List ℕ) → l ≡ l' → w0 ≡ w1 → t ≡ t' → record w { left = l; written = w0; target = t } ≡ record w { left = l'; written = w1; target = t' }
same_parts w l l' w0 w1 t t' e f g =
    ap (λ (x : ℕ → List ℕ). record w { left = x; written = w0; target = t }) e
    ∙ ap (λ (x : ℕ → List ℕ). record w { left = l'; written = x; target = t }) f
    ∙ ap (λ (x : ℕ → List ℕ). record w { left = l'; written = w1; target = x }) g

pub world-open : (contents : List ℕ → Option (List ℕ)) (slots slots' : List SlotState) (asked asked' : List Asked) (reported name bytes : List ℕ)
    → slots' ≡ slots ++ Reading bytes ∷ [] → asked' ≡ asked ++ Opened name ∷ []
    → mem_world contents slots' asked' reported ≡ after_open (mem_world contents slots asked reported) name (length slots) bytes
world-open contents slots slots' asked asked' reported name bytes e f =
    ap (λ (x : List SlotState). mem_world contents x asked' reported) e
    ∙ ap (λ (x : List Asked). mem_world contents (slots ++ Reading bytes ∷ []) x reported) f
    ∙ same_parts (mem_world contents slots (asked ++ Opened name ∷ []) reported) _ _ _ _ _ _
    (fun_ext (pushed left_of slots (Reading bytes) bytes refl)) (fun_ext (same_push written_of slots (Reading bytes) refl)) (fun_ext (same_push target_of slots (Reading bytes) refl))

pub world-create : (contents contents' : List ℕ → Option (List ℕ)) (slots slots' : List SlotState) (asked asked' : List Asked) (reported name : List ℕ)
    → contents' ≡ with_file contents name (λ old. Some []) → slots' ≡ slots ++ Writing name [] ∷ [] → asked' ≡ asked ++ Created name ∷ []
    → mem_world contents' slots' asked' reported ≡ after_create (mem_world contents slots asked reported) name (length slots)
world-create contents contents' slots slots' asked asked' reported name d e f =
    ap (λ (x : List ℕ → Option (List ℕ)). mem_world x slots' asked' reported) d
    ∙ ap (λ (x : List SlotState). mem_world (with_file contents name (λ old. Some [])) x asked' reported) e
    ∙ ap (λ (x : List Asked). mem_world (with_file contents name (λ old. Some [])) (slots ++ Writing name [] ∷ []) x reported) f
    ∙ same_parts (mem_world (with_file contents name (λ old. Some [])) slots (asked ++ Created name ∷ []) reported) _ _ _ _ _ _
    (fun_ext (same_push left_of slots (Writing name []) refl)) (fun_ext (pushed written_of slots (Writing name []) [] refl)) (fun_ext (pushed target_of slots (Writing name []) name refl))

-- the slot that is read is left with what came not, or ends
pub world-read : (contents : List ℕ → Option (List ℕ)) (slots slots' : List SlotState) (asked : List Asked) (reported : List ℕ) (k count : ℕ) (s : SlotState)
    → k < length slots → slots' ≡ set slots k s → left_of (Some s) ≡ drop count (left_of (slice_get slots k))
    → written_of (Some s) ≡ written_of (slice_get slots k) → target_of (Some s) ≡ target_of (slice_get slots k)
    → mem_world contents slots' asked reported ≡ after_read (mem_world contents slots asked reported) k count
world-read contents slots slots' asked reported k count s h e l w t =
    ap (λ (x : List SlotState). mem_world contents x asked reported) e
    ∙ same_parts (mem_world contents slots asked reported) _ _ _ _ _ _
    (fun_ext (changed left_of slots k s (drop count) h l)) (fun_ext (same_set written_of slots k s w)) (fun_ext (same_set target_of slots k s t))

pub world-write : (contents contents' : List ℕ → Option (List ℕ)) (slots slots' : List SlotState) (asked : List Asked) (reported : List ℕ) (k : ℕ) (s : SlotState) (bytes : List ℕ)
    → k < length slots → slots' ≡ set slots k s → left_of (Some s) ≡ left_of (slice_get slots k)
    → written_of (Some s) ≡ written_of (slice_get slots k) ++ bytes → target_of (Some s) ≡ target_of (slice_get slots k)
    → contents' ≡ with_file contents (target_of (slice_get slots k)) (option_map (λ old. old ++ bytes))
    → mem_world contents' slots' asked reported ≡ after_write (mem_world contents slots asked reported) k bytes
world-write contents contents' slots slots' asked reported k s bytes h e l w t d =
    ap (λ (x : List ℕ → Option (List ℕ)). mem_world x slots' asked reported) d
    ∙ ap (λ (x : List SlotState). mem_world (with_file contents (target_of (slice_get slots k)) (option_map (λ old. old ++ bytes))) x asked reported) e
    ∙ same_parts (mem_world (with_file contents (target_of (slice_get slots k)) (option_map (λ old. old ++ bytes))) slots asked reported) _ _ _ _ _ _
    (fun_ext (same_set left_of slots k s l)) (fun_ext (changed written_of slots k s (λ old. old ++ bytes) h w)) (fun_ext (same_set target_of slots k s t))
