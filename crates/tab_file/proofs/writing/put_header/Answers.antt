use Rattle.std.proofs.Common.{◌≡◌, ◌<◌, ◌^◌, ◌++◌, ℕ, subst, arith}
use Rattle.std.specs.Prelude.{◌==◌, count_by}
use Rattle.gold.specs.Shapes.{counts_from}
use Rattle.gold.specs.declared.shapes.Form.TheVariants.{Two}
use Rattle.tab_file.specs.Format.{header, number}
use Rattle.tab_file.proofs.Heights.{header_more}
use Rattle.tab_file.proofs.writing.put_header.Goals as goal

pub overflow_cast-count : goal.overflow_cast-count
overflow_cast-count c =
    let bound : c.count.result < 2 ^ 32 = rw (c.count.ensures, c.as_slice.ensures.items) (c.requires c.loop-air.air c.loop-air-test.true) in
    omega (arith, bound)

pub loop-air-preserved : goal.loop-air-preserved
loop-air-preserved c =
    let w = c.args.witness.now in
    let out = c.put_number-in-loop-air.new.out.items in
    let counted : c.put_number-in-loop-air.new.out.items ≡ c.loop-air.out.items ++ number (count_by (λ t. t.air == c.loop-air.air) c.args.witness.now.tables) =
    rw (← c.as_slice.ensures.items, ← c.count.ensures) c.in_ok-put_number-5.ensures in
    header_more c.args.out.now.items w.profile w.tables c.loop-air.air c.loop-air.out.items out c.loop-air.invariant counted

pub returns : goal.returns
returns c =
    let w = c.args.witness.now in
    let all : c.loop-air.air ≡ 7 = omega (arith, c.loop-air.auto.air-end, c.loop-air-test.false) in
    subst (λ (n : ℕ). c.loop-air.out.items ≡ c.args.out.now.items ++ header Two w.profile 7 (counts_from 0 n w.tables)) all c.loop-air.invariant
