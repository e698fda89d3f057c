-- An executable word lies below the end of memory.
use Rattle.std.proofs.Common.{◌≡◌, ◌==◌, ◌%◌, ◌<◌, ◌^◌, ℕ, Bool, true, false, if◌then◌else◌, List, [], ◌∷◌, Option, Some, None, IsSome, refl, arith}
use Rattle.std.specs.Prelude.{All, find}
use Rattle.std.specs.Option.{option_map}
use Rattle.std.proofs.lemmas.Bool.Decides.{nat_tests}
use Rattle.std.proofs.lemmas.List.Elements.{All-head, All-tail}
use Rattle.rv_model.specs.Image.{Img, Seg, IsSegment, fetch, runs_at, word_in}

runs_below : (s : Seg) (pc : ℕ) → IsSegment s → runs_at pc s ≡ true → pc < 2 ^ 32
runs_below s pc is e = grind (arith, nat_tests, is.below)

found_below : (ss : List Seg) (pc : ℕ) → All IsSegment ss → IsSome (find (runs_at pc) ss) → pc < 2 ^ 32
found_below [] pc all h = cc
found_below (s ∷ ss) pc all h =
    elim (runs_at pc s) as (λ t. runs_at pc s ≡ t → IsSome (if t then Some s else find (runs_at pc) ss) → pc < 2 ^ 32) [
      | true ↦ λ e g. runs_below s pc (All-head IsSegment s ss all) e
      | false ↦ λ e g. found_below ss pc (All-tail IsSegment s ss all) g
    ] refl h

mapped_from : (f : Seg → ℕ) (o : Option Seg) → IsSome (option_map f o) → IsSome o
mapped_from f None h = cc
mapped_from f (Some s) h = refl

pub fetched_below : (image : Img) (pc : ℕ) → All IsSegment image.segments → IsSome (fetch image pc) → pc < 2 ^ 32
unfolding fetch
fetched_below image pc all h =
    elim (pc % 4 == 0) as (λ t. IsSome (if t then option_map (λ s. word_in s pc) (find (runs_at pc) image.segments) else None) → pc < 2 ^ 32) [
      | true ↦ λ g. found_below image.segments pc all (mapped_from (λ s. word_in s pc) (find (runs_at pc) image.segments) g)
      | false ↦ λ g. cc
    ] h
