use Rattle.std.proofs.Common.{arith}
use Rattle.wit_columns.specs.Index.{witness_of}
use Rattle.wit_columns.proofs.Found.{counted_seen}
use Rattle.wit_columns.proofs.table_columns.TableColumns.count.Goals as goal

pub bounds-starts-air : goal.bounds-starts-air
bounds-starts-air c =
    let at = counted_seen c.self.inside.shape.now (witness_of c.self.inside.profile c.self.inside.tables.now) c.args.self.now c.self.inside.starts c.as_slice-starts.result.now c.args.air c.self.view_is c.as_slice-starts.ensures c.self.invariant c.requires in
    omega (arith, at.inside)

pub bounds-starts-air-2 : goal.bounds-starts-air-2
bounds-starts-air-2 c =
    let at = counted_seen c.self.inside.shape.now (witness_of c.self.inside.profile c.self.inside.tables.now) c.args.self.now c.self.inside.starts c.as_slice-starts.result.now c.args.air c.self.view_is c.as_slice-starts.ensures c.self.invariant c.requires in
    omega (arith, at.inside)

pub overflow_sub-result : goal.overflow_sub-result
overflow_sub-result c =
    let at = counted_seen c.self.inside.shape.now (witness_of c.self.inside.profile c.self.inside.tables.now) c.args.self.now c.self.inside.starts c.as_slice-starts.result.now c.args.air c.self.view_is c.as_slice-starts.ensures c.self.invariant c.requires in
    omega (arith, at.count)

pub overflow_cast-result-3 : goal.overflow_cast-result-3
overflow_cast-result-3 c =
    let at = counted_seen c.self.inside.shape.now (witness_of c.self.inside.profile c.self.inside.tables.now) c.args.self.now c.self.inside.starts c.as_slice-starts.result.now c.args.air c.self.view_is c.as_slice-starts.ensures c.self.invariant c.requires in
    omega (arith, at.count, at.bits)

pub returns : goal.returns
returns c =
    let at = counted_seen c.self.inside.shape.now (witness_of c.self.inside.profile c.self.inside.tables.now) c.args.self.now c.self.inside.starts c.as_slice-starts.result.now c.args.air c.self.view_is c.as_slice-starts.ensures c.self.invariant c.requires in
    omega (arith, at.count)
