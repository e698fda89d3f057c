use Rattle.machine_columns.proofs.Found.{constant_seen, reached, held_seen, none_seen}
use Rattle.machine_columns.proofs.columns.MachineColumnsColumns.at.Goals as goal

pub returns-then-column-constants : goal.returns-then-column-constants
returns-then-column-constants c =
    constant_seen c.self.inside.image.now c.self.inside.fixed c.self.inside.tables c.self.invariant c.args.self.now c.self.view_is c.args.space c.args.instance c.args.column c.args.row c.at.result c.constants_of-constants.result c.at-namespace.result
    c.at-namespace.ensures c.constants_of-constants.ensures c.if-column-constants.true c.at.ensures
    (record { space = c.requires.space; instance = c.requires.instance; column = c.requires.column; row = c.requires.row })

pub at-requires-in-Some-clause-instance : goal.at-requires-in-Some-clause-instance
at-requires-in-Some-clause-instance c =
    (reached c.self.inside.image.now c.self.inside.fixed c.self.inside.tables c.self.invariant c.args.self.now c.self.view_is c.args.space c.args.instance c.args.column c.args.row c.constants_of-constants.result c.number.result c.at-namespace.result c.air_of.result c.in-Some.air
    (record { space_is = c.at-namespace.ensures; constants = c.constants_of-constants.ensures; past = c.if-column-constants.false }) c.air_of.ensures c.in-Some.is c.number.ensures.value
    (record { space = c.requires.space; instance = c.requires.instance; column = c.requires.column; row = c.requires.row })).instance

pub at-requires-in-Some-clause-column : goal.at-requires-in-Some-clause-column
at-requires-in-Some-clause-column c =
    (reached c.self.inside.image.now c.self.inside.fixed c.self.inside.tables c.self.invariant c.args.self.now c.self.view_is c.args.space c.args.instance c.args.column c.args.row c.constants_of-constants.result c.number.result c.at-namespace.result c.air_of.result c.in-Some.air
    (record { space_is = c.at-namespace.ensures; constants = c.constants_of-constants.ensures; past = c.if-column-constants.false }) c.air_of.ensures c.in-Some.is c.number.ensures.value
    (record { space = c.requires.space; instance = c.requires.instance; column = c.requires.column; row = c.requires.row })).column

pub at-requires-in-Some-clause-row : goal.at-requires-in-Some-clause-row
at-requires-in-Some-clause-row c =
    (reached c.self.inside.image.now c.self.inside.fixed c.self.inside.tables c.self.invariant c.args.self.now c.self.view_is c.args.space c.args.instance c.args.column c.args.row c.constants_of-constants.result c.number.result c.at-namespace.result c.air_of.result c.in-Some.air
    (record { space_is = c.at-namespace.ensures; constants = c.constants_of-constants.ensures; past = c.if-column-constants.false }) c.air_of.ensures c.in-Some.is c.number.ensures.value
    (record { space = c.requires.space; instance = c.requires.instance; column = c.requires.column; row = c.requires.row })).row

pub returns-in-Some : goal.returns-in-Some
returns-in-Some c =
    held_seen c.self.inside.image.now c.self.inside.fixed c.self.inside.tables c.self.invariant c.args.self.now c.self.view_is c.args.space c.args.instance c.args.column c.args.row c.at-in-Some.result c.constants_of-constants.result c.number.result c.at-namespace.result c.air_of.result c.in-Some.air
    (record { space_is = c.at-namespace.ensures; constants = c.constants_of-constants.ensures; past = c.if-column-constants.false }) c.air_of.ensures c.in-Some.is c.number.ensures.value c.at-in-Some.ensures
    (record { space = c.requires.space; instance = c.requires.instance; column = c.requires.column; row = c.requires.row })

pub returns-in-None : goal.returns-in-None
returns-in-None c =
    none_seen c.self.inside.image.now c.self.inside.fixed c.self.inside.tables c.self.invariant c.args.self.now c.self.view_is c.args.space c.args.instance c.args.column c.args.row c.constants_of-constants.result c.at-namespace.result c.air_of.result
    (record { space_is = c.at-namespace.ensures; constants = c.constants_of-constants.ensures; past = c.if-column-constants.false }) c.air_of.ensures c.in-None.is
    (record { space = c.requires.space; instance = c.requires.instance; column = c.requires.column; row = c.requires.row })
