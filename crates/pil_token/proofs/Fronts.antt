-- The bytes at the front that pass a test.
use Rattle.std.proofs.Common.{zero, suc, take, ◌≡◌, ℕ, ◌≤◌, ◌<◌, List, [], ◌∷◌, length, Bool, true, false, cond, take_while, IsTrue, Option, Some, None, nat_lt, if◌then◌else◌, refl, ap, ◌∙◌, arith}
use Rattle.std.specs.List.{list_all}
use Rattle.std.proofs.lemmas.List.Sums.{take_while-cons, prefix_len-le-length}
use Rattle.std.proofs.lemmas.List.Folds.{length-prefix_len}
use Rattle.std.proofs.lemmas.Grind.{common_steps}
use Rattle.pil_token.specs.Spelling.{begins_name, continues_name, IsWordLike}

pub ruleset fronts = (length-prefix_len, prefix_len-le-length)

-- a front one longer, or none
pub front_goes_on : (p : ℕ → Bool) (b : ℕ) (bs : List ℕ) → p b ≡ true → take_while p (b ∷ bs) ≡ b ∷ take_while p bs
front_goes_on p b bs passes = take_while-cons p b bs ∙ (rw passes)

pub front_stops : (p : ℕ → Bool) (b : ℕ) (bs : List ℕ) → p b ≡ false → take_while p (b ∷ bs) ≡ []
front_stops p b bs fails = take_while-cons p b bs ∙ (rw fails)

pub front_some : (p : ℕ → Bool) (b : ℕ) (bs : List ℕ) → p b ≡ true → 0 < length (take_while p (b ∷ bs))
front_some p b bs passes = rw (front_goes_on p b bs passes) (omega arith)

-- each byte at the front that passes a test passes it
pub all_front : (p : ℕ → Bool) (bs : List ℕ) → IsTrue (list_all p (take_while p bs))
all_front p [] = refl
all_front p (b ∷ bs) = rw take_while-cons (step (p b) refl (all_front p bs))
  where
    step : (c : Bool) → p b ≡ c → IsTrue (list_all p (take_while p bs)) → IsTrue (list_all p (cond c (b ∷ take_while p bs) []))
    step true passes rest = rw passes rest
    step false fails rest = refl

-- what begins a name goes on with one
pub begins_continues : (b : ℕ) → begins_name b ≡ true → continues_name b ≡ true
begins_continues b begun = grind (arith, common_steps)

-- a letter or `_` and the letters, digits and `_` behind it
pub word_like_front : (b : ℕ) (bs : List ℕ) → begins_name b ≡ true → IsWordLike (take_while continues_name (b ∷ bs))
word_like_front b bs begun = rw (front_goes_on continues_name b bs (begins_continues b begun)) (begun, all_front continues_name bs)

-- a number that reaches the order is not below it
pub none_from : (n most : ℕ) → most ≤ n → ◌≡◌ {A = Option ℕ} None (if nat_lt n most then Some n else None)
none_from n most h = grind (arith, common_steps)

-- so many first bytes are the front
pub take_front : (p : ℕ → Bool) (bs : List ℕ) → take (length (take_while p bs)) bs ≡ take_while p bs
take_front p bs = ap (λ (n : ℕ). take n bs) (length-prefix_len p bs)

-- the first of the first bytes
pub starts_byte : (b c : ℕ) (bs cs : List ℕ) (k : ℕ) → take k (b ∷ bs) ≡ c ∷ cs → b ≡ c
starts_byte b c bs cs zero e = cc
starts_byte b c bs cs (suc k) e = cc
