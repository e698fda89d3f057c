use Rattle.std.proofs.Common.{arith}
use Rattle.wit_columns.specs.Index.{witness_of}
use Rattle.wit_columns.proofs.Found.{counted_seen, chosen_seen}
use Rattle.wit_columns.proofs.table_columns.TableColumns.table.Goals as goal

pub bounds-starts-air : goal.bounds-starts-air
bounds-starts-air c =
    let at = counted_seen c.self.inside.shape.now (witness_of c.self.inside.profile c.self.inside.tables.now) c.args.self.now c.self.inside.starts c.as_slice-starts.result.now c.args.air c.self.view_is c.as_slice-starts.ensures c.self.invariant c.requires.air in
    omega (arith, at.inside)

pub overflow_add-result : goal.overflow_add-result
overflow_add-result c =
    let at = chosen_seen c.self.inside.shape.now (witness_of c.self.inside.profile c.self.inside.tables.now) c.args.self.now c.self.inside.starts c.as_slice-starts.result.now c.args.air c.args.instance c.self.view_is c.as_slice-starts.ensures c.self.invariant c.requires.air c.requires.instance in
    omega (arith, at.inside, c.self.told)

pub offset_bounds-self-inside-starts : goal.offset_bounds-self-inside-starts
offset_bounds-self-inside-starts c =
    let at = chosen_seen c.self.inside.shape.now (witness_of c.self.inside.profile c.self.inside.tables.now) c.args.self.now c.self.inside.starts c.as_slice-starts.result.now c.args.air c.args.instance c.self.view_is c.as_slice-starts.ensures c.self.invariant c.requires.air c.requires.instance in
    omega (arith, at.inside, c.self.told)

pub bounds-self-inside-starts : goal.bounds-self-inside-starts
bounds-self-inside-starts c =
    let at = chosen_seen c.self.inside.shape.now (witness_of c.self.inside.profile c.self.inside.tables.now) c.args.self.now c.self.inside.starts c.as_slice-starts.result.now c.args.air c.args.instance c.self.view_is c.as_slice-starts.ensures c.self.invariant c.requires.air c.requires.instance in
    at.inside

pub returns-clause-found : goal.returns-clause-found
returns-clause-found c =
    let at = chosen_seen c.self.inside.shape.now (witness_of c.self.inside.profile c.self.inside.tables.now) c.args.self.now c.self.inside.starts c.as_slice-starts.result.now c.args.air c.args.instance c.self.view_is c.as_slice-starts.ensures c.self.invariant c.requires.air c.requires.instance in
    at.found c.index-self-starts.result

pub returns-clause-columns : goal.returns-clause-columns
returns-clause-columns c =
    let at = chosen_seen c.self.inside.shape.now (witness_of c.self.inside.profile c.self.inside.tables.now) c.args.self.now c.self.inside.starts c.as_slice-starts.result.now c.args.air c.args.instance c.self.view_is c.as_slice-starts.ensures c.self.invariant c.requires.air c.requires.instance in
    at.columns c.index-self-starts.result

pub returns-clause-rows : goal.returns-clause-rows
returns-clause-rows c =
    let at = chosen_seen c.self.inside.shape.now (witness_of c.self.inside.profile c.self.inside.tables.now) c.args.self.now c.self.inside.starts c.as_slice-starts.result.now c.args.air c.args.instance c.self.view_is c.as_slice-starts.ensures c.self.invariant c.requires.air c.requires.instance in
    at.rows c.index-self-starts.result
