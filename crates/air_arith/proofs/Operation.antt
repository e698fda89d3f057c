-- An operation's tuple by its entries.
use Rattle.std.specs.Prelude.{ℕ, ◌+◌, ◌*◌, ◌^◌, ◌<◌, ◌≡◌, cond, List, Contains}
use Rattle.rv_word.specs.declared.instr.OpNo.{OpNo}
use Rattle.rv_word.specs.Numbers.{op_number}
use Rattle.rv_model.specs.Op.{value_of, flag_of}

-- lo and hi are the limbs of v
pub record Limbs (lo hi v : ℕ) : Type 0 where
  pub low : lo < 2 ^ 32
  pub high : hi < 2 ^ 32
  pub value : v ≡ lo + 4294967296 * hi

-- What an operation's tuple says: the number of an operation, both operands, the value and the flag.
pub record IsOf (operations : List OpNo) (number alo ahi blo bhi clo chi flag : ℕ) : Type 0 where
  pub o : OpNo
  pub a : ℕ
  pub b : ℕ
  pub here : Contains operations o
  pub number_is : number ≡ op_number o
  pub first : Limbs alo ahi a
  pub second : Limbs blo bhi b
  pub value : Limbs clo chi (value_of o a b)
  pub flag_is : flag ≡ cond (flag_of o a b) 1 0
