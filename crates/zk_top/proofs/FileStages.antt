-- One outcome of a file's stage.
use Rattle.std.proofs.Common.{◌≡◌, ℕ, List, length, Option, Some, None, Bool, true, false, MatchBool, nat_le, refl, sym, ◌∙◌}
use Rattle.host_io.specs.World.{Asked}
use Rattle.zk_words.specs.declared.status.Which.{Which}
use Rattle.zk_words.specs.declared.status.Status.TheVariants as statuses
use Rattle.zk_top.specs.Outcome.{Outcome, WithFile, refused, unanswered}

-- some outcome, where what follows has one
pub some_with_file : (names : List Asked) (x : Option (List ℕ)) (limit : ℕ) (which : Which) (On : List ℕ → Outcome → Type 0) → ((bytes : List ℕ) → x ≡ Some bytes → (o : Outcome) × On bytes o) → (o : Outcome) × WithFile names x limit which On o
some_with_file names None limit which On on = (unanswered names, refl)
some_with_file names (Some bytes) limit which On on = by (nat_le (length bytes) limit)
  where
    by : (b : Bool) → (o : Outcome) × MatchBool b (On bytes o) (o ≡ refused names (statuses.TooLarge which))
    by true = on bytes refl
    by false = (refused names (statuses.TooLarge which), refl)

-- and only one, where what follows has only one
pub one_with_file : (names : List Asked) (x : Option (List ℕ)) (limit : ℕ) (which : Which) (On : List ℕ → Outcome → Type 0) → ((bytes : List ℕ) (o p : Outcome) → On bytes o → On bytes p → o ≡ p) → (o p : Outcome) → WithFile names x limit which On o → WithFile names x limit which On p → o ≡ p
one_with_file names None limit which On on o p h k = h ∙ sym k
one_with_file names (Some bytes) limit which On on o p h k = by (nat_le (length bytes) limit) h k
  where
    by : (b : Bool) → MatchBool b (On bytes o) (o ≡ refused names (statuses.TooLarge which)) → MatchBool b (On bytes p) (p ≡ refused names (statuses.TooLarge which)) → o ≡ p
    by true h' k' = on bytes o p h' k'
    by false h' k' = h' ∙ sym k'
