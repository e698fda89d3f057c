use Rattle.std.proofs.Common.{◌≡◌, ◌∙◌, refl, sym, ap, arith, [], Some, None}
use Rattle.host_io.specs.Memory.{first_place}
use Rattle.host_io.specs.States.{file_states}
use Rattle.host_io.proofs.FileStates.{place_bound, contents-set, contents-push}
use Rattle.host_io.proofs.files.empty_file.Goals as goal

pub index_mut-file-requires : goal.index_mut-file-requires
index_mut-file-requires c =
    let place : first_place (file_states c.args.files.now.items) c.args.name.now ≡ Some c.in-Some.place = ap (λ (files : _). first_place (file_states files) c.args.name.now) (sym c.deref.ensures.value) ∙ sym c.in-Some.ensures in
    omega (arith, place_bound c.args.files.now.items c.args.name.now c.in-Some.place place, c.args.files.now.ok)

pub returns-in-Some-clause-ok : goal.returns-in-Some-clause-ok
returns-in-Some-clause-ok c =
    let place : first_place (file_states c.args.files.now.items) c.args.name.now ≡ Some c.in-Some.place = ap (λ (files : _). first_place (file_states files) c.args.name.now) (sym c.deref.ensures.value) ∙ sym c.in-Some.ensures in
    contents-set c.args.files.now.items c.args.name.now c.in-Some.place c.index_mut-file.result.now _ (λ old. Some []) place c.index_mut-file.ensures.value refl (ap Some c.clear.ensures.items)

pub returns-in_ok-push-in-None-clause-ok : goal.returns-in_ok-push-in-None-clause-ok
returns-in_ok-push-in-None-clause-ok c =
    let place : first_place (file_states c.args.files.now.items) c.args.name.now ≡ None = ap (λ (files : _). first_place (file_states files) c.args.name.now) (sym c.deref.ensures.value) ∙ sym c.in-None.ensures in
    rw c.in_ok-push-in-None.ensures.items (contents-push c.args.files.now.items c.args.name.now _ place c.in_ok-from_str-in-None.ensures.ok c.new.ensures.items)
