-- Arith's operations by their numbers from 0 to 12.
use Rattle.std.proofs.Common.{ℕ, ◌+◌, ◌^◌, ◌<◌, ◌≡◌, Bool, true, false, List, [], ◌∷◌, Contains, refl, ap, subst, lit<}
use Rattle.std.specs.Prelude.{slice_index, slice_index_or}
use Rattle.std.proofs.lemmas.Bool.{false≢true}
use Rattle.rv_word.specs.declared.instr.OpNo.{OpNo}
use Rattle.rv_word.specs.declared.instr.OpNo.TheVariants as ops
use Rattle.rv_word.specs.Numbers.{op_number}
use Rattle.zk_layout.specs.Air.{air_of}
use Rattle.zk_layout.specs.declared.air.Air.{Air}
use Rattle.zk_layout.specs.declared.air.Air.TheVariants as airs
use Rattle.pil_ast.specs.Term.{Namespace}
use Rattle.pil_ast.specs.Columns.{Columns}
use Rattle.pil_exact.proofs.Flags.{Each, each}
use Rattle.step_rows.specs.ArithRow.{numbered_row}
use Rattle.air_arith.specs.Laws.{HasArith, Meets}

abbrev pub products_and_quotients : List OpNo
products_and_quotients =
    ops.Mul ∷ ops.Mulh ∷ ops.Mulhsu ∷ ops.Mulhu ∷ ops.Div ∷ ops.Divu ∷ ops.Rem ∷ ops.Remu ∷ ops.Mulw ∷ ops.Divw ∷ ops.Divuw ∷ ops.Remw ∷ ops.Remuw ∷ []

-- row r of instance i is that of the n-th operation
abbrev pub IsNumberedRow : Columns → ℕ → ℕ → ℕ → ℕ → ℕ → Type 0
IsNumberedRow c i r n a b = (j : ℕ) → j < 79 → c.at 12 i j r ≡ slice_index (numbered_row n a b) j

-- it meets the lines
abbrev pub CompleteFor : ℕ → Type 0
CompleteFor n = (ns : List Namespace) (c : Columns) (i r a b : ℕ) → HasArith ns c → a < 2 ^ 64 → b < 2 ^ 64 → IsNumberedRow c i r n a b → Meets ns c i r

-- they are those of the air, with numbers from 17 on
module _ (d : OpNo) where
  abbrev place : ℕ → OpNo
  place k = slice_index_or products_and_quotients k d

  in_air_each : Each (λ k. air_of (place k) ≡ airs.Arith) 13
  unfolding air_of op_number
  in_air_each = (refl, (refl, (refl, (refl, (refl, (refl, (refl, (refl, (refl, (refl, (refl, (refl, (refl, tt)))))))))))))

  numbers : Each (λ k. op_number (place k) ≡ 17 + k) 13
  unfolding op_number
  numbers = (refl, (refl, (refl, (refl, (refl, (refl, (refl, (refl, (refl, (refl, (refl, (refl, (refl, tt)))))))))))))

pub number_at : (k : ℕ) → k < 13 → (d : OpNo) → op_number (slice_index_or products_and_quotients k d) ≡ 17 + k
number_at k l d = each (λ k. op_number (place d k) ≡ 17 + k) 13 (numbers d) k l

pub in_air : (o : OpNo) → Contains products_and_quotients o → air_of o ≡ airs.Arith
in_air o h = subst (λ o. air_of o ≡ airs.Arith) h.2 (each (λ k. air_of (place o k) ≡ airs.Arith) 13 (in_air_each o) h.0 h.1)

is_arith : Air → Bool
is_arith airs.Arith = true
is_arith _ = false

-- the operation's place among them
pub record IsPlace (o : OpNo) (n : ℕ) : Type 0 where
  pub below : n < 13
  pub is : (d : OpNo) → slice_index_or products_and_quotients n d ≡ o
  pub number : op_number o ≡ 17 + n

pub place_of : (o : OpNo) → air_of o ≡ airs.Arith → (n : ℕ) × IsPlace o n
unfolding air_of op_number is_arith
place_of ops.Add e = absurd (false≢true (ap is_arith e))
place_of ops.Sub e = absurd (false≢true (ap is_arith e))
place_of ops.Ltu e = absurd (false≢true (ap is_arith e))
place_of ops.Lt e = absurd (false≢true (ap is_arith e))
place_of ops.Eq e = absurd (false≢true (ap is_arith e))
place_of ops.And e = absurd (false≢true (ap is_arith e))
place_of ops.Or e = absurd (false≢true (ap is_arith e))
place_of ops.Xor e = absurd (false≢true (ap is_arith e))
place_of ops.Addw e = absurd (false≢true (ap is_arith e))
place_of ops.Subw e = absurd (false≢true (ap is_arith e))
place_of ops.Sll e = absurd (false≢true (ap is_arith e))
place_of ops.Srl e = absurd (false≢true (ap is_arith e))
place_of ops.Sra e = absurd (false≢true (ap is_arith e))
place_of ops.Sllw e = absurd (false≢true (ap is_arith e))
place_of ops.Srlw e = absurd (false≢true (ap is_arith e))
place_of ops.Sraw e = absurd (false≢true (ap is_arith e))
place_of ops.Mul e = (0, record { below = lit< tt; is = λ d. refl; number = refl })
place_of ops.Mulh e = (1, record { below = lit< tt; is = λ d. refl; number = refl })
place_of ops.Mulhsu e = (2, record { below = lit< tt; is = λ d. refl; number = refl })
place_of ops.Mulhu e = (3, record { below = lit< tt; is = λ d. refl; number = refl })
place_of ops.Div e = (4, record { below = lit< tt; is = λ d. refl; number = refl })
place_of ops.Divu e = (5, record { below = lit< tt; is = λ d. refl; number = refl })
place_of ops.Rem e = (6, record { below = lit< tt; is = λ d. refl; number = refl })
place_of ops.Remu e = (7, record { below = lit< tt; is = λ d. refl; number = refl })
place_of ops.Mulw e = (8, record { below = lit< tt; is = λ d. refl; number = refl })
place_of ops.Divw e = (9, record { below = lit< tt; is = λ d. refl; number = refl })
place_of ops.Divuw e = (10, record { below = lit< tt; is = λ d. refl; number = refl })
place_of ops.Remw e = (11, record { below = lit< tt; is = λ d. refl; number = refl })
place_of ops.Remuw e = (12, record { below = lit< tt; is = λ d. refl; number = refl })
place_of ops.Sh1add e = absurd (false≢true (ap is_arith e))
place_of ops.Sh2add e = absurd (false≢true (ap is_arith e))
place_of ops.Sh3add e = absurd (false≢true (ap is_arith e))
place_of ops.Czeqz e = absurd (false≢true (ap is_arith e))
place_of ops.Cznez e = absurd (false≢true (ap is_arith e))
