use Rattle.std.proofs.Common.{ℕ, ◌≡◌, ◌+◌, ◌<◌, ◌≤◌, [], Some, take, length, refl, sym, ap, subst, ◌∙◌, arith}
use Rattle.std.specs.Prelude.{slice_get}
use Rattle.std.proofs.lemmas.Result.{IfOk-weaker}
use Rattle.rv_model.specs.Image.{IsLoadable}
use Rattle.machine_columns.specs.Values.{sizes_of}
use Rattle.verdict.specs.Standing.{AreAllowed, StandsForTables}
use Rattle.verdict.proofs.Verdicts.{got, sound_of, take_all, take_one}
use Rattle.verdict.proofs.Whole.{placing}
use Rattle.verdict.proofs.judging.verdict.Goals as goal

pub new-requires : goal.new-requires
new-requires c = subst AreAllowed (sym c.in_ok-sizes.ensures) c.requires.counted

pub loop-table-init : goal.loop-table-init
loop-table-init c = subst (λ z. StandsForTables c.args.image.now z [] c.in_ok-run.run') c.in_ok-sizes.ensures c.in_ok-run.ensures

pub add-requires : goal.add-requires
add-requires c =
    let w = c.args.witness.now in
    let n = c.loop-table.table-index in
    let at : slice_get w.tables n ≡ Some c.table-item.result = got w.tables c.as_slice-table-items.result.now n c.table-item.result c.as_slice-table-items.ensures.items c.loop-table-test.true c.table-item.is in
    record { sizes = sizes_of w; tables = take n w.tables; stands = c.loop-table.invariant; next = (placing w n c.table-item.result c.requires at).comes }

pub loop-table-preserved : goal.loop-table-preserved
loop-table-preserved c =
    let w = c.args.witness.now in
    let n = c.loop-table.table-index in
    let at : slice_get w.tables n ≡ Some c.table-item.result = got w.tables c.as_slice-table-items.result.now n c.table-item.result c.as_slice-table-items.ensures.items c.loop-table-test.true c.table-item.is in
    subst (λ ts. StandsForTables c.args.image.now (sizes_of w) ts c.add.new.self) (sym (take_one w.tables n c.table-item.result at))
    (c.in_ok-add.ensures (sizes_of w) (take n w.tables) c.loop-table.invariant (placing w n c.table-item.result c.requires at).comes)

pub finish-requires : goal.finish-requires
finish-requires c =
    let w = c.args.witness.now in
    record {
      image = c.args.image.now;
      sizes = sizes_of w;
      tables = w.tables;
      stands = subst (λ ts. StandsForTables c.args.image.now (sizes_of w) ts c.loop-table.run) (take_all w.tables c.loop-table.table-index (let e = ap length c.as_slice-table-items.ensures.items in let t = c.loop-table-test.false in omega arith)) c.loop-table.invariant;
      all = record { formed = c.requires; sized = refl };
    }

pub returns-clause-judged : goal.returns-clause-judged
returns-clause-judged c =
    let w = c.args.witness.now in
    IfOk-weaker c.finish.result _ _
    (λ j h. h c.args.image.now (sizes_of w) w.tables
    (subst (λ ts. StandsForTables c.args.image.now (sizes_of w) ts c.loop-table.run) (take_all w.tables c.loop-table.table-index (let e = ap length c.as_slice-table-items.ensures.items in let t = c.loop-table-test.false in omega arith)) c.loop-table.invariant)
    (record { formed = c.requires; sized = refl })) c.finish.ensures

pub returns-clause-sound : goal.returns-clause-sound
returns-clause-sound c =
    let w = c.args.witness.now in
    let loadable : IsLoadable c.args.image.now = subst IsLoadable c.image.view_is c.image.invariant.loadable in
    IfOk-weaker c.finish.result _ _
    (λ j h. sound_of c.args.image.now w j loadable c.requires c.soundness_laws.ensures.headline c.soundness_laws.ensures.rows c.soundness_laws.ensures.no_wrap
    (h c.args.image.now (sizes_of w) w.tables
    (subst (λ ts. StandsForTables c.args.image.now (sizes_of w) ts c.loop-table.run) (take_all w.tables c.loop-table.table-index (let e = ap length c.as_slice-table-items.ensures.items in let t = c.loop-table-test.false in omega arith)) c.loop-table.invariant)
    (record { formed = c.requires; sized = refl }))) c.finish.ensures
