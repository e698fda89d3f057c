use Rattle.std.proofs.Common.{◌≡◌, ◌∙◌, ◌++◌, refl, sym, ap, arith, Some, None, List, ℕ}
use Rattle.std.specs.Option.{option_map}
use Rattle.std.specs.Prelude.{string_bytes}
use Rattle.host_io.specs.Memory.{first_place}
use Rattle.host_io.specs.States.{file_states}
use Rattle.host_io.proofs.FileStates.{place_bound, contents-set, contents-none, states-set}
use Rattle.host_io.proofs.slots.Target.append.Goals as goal

pub index_mut-file-requires : goal.index_mut-file-requires
index_mut-file-requires c =
    let place : first_place (file_states c.args.files.now.items) (string_bytes c.args.self.now.name) ≡ Some c.in-Some.place =
    ap (λ (files : _). first_place (file_states files) (string_bytes c.args.self.now.name)) (sym c.deref.ensures.value) ∙ ap (first_place (file_states c.deref.result.now)) (sym c.as_str.ensures.value) ∙ sym c.in-Some.ensures in
    omega (arith, place_bound c.args.files.now.items (string_bytes c.args.self.now.name) c.in-Some.place place, c.args.files.now.ok)

pub returns-in-Ok-clause-file : goal.returns-in-Ok-clause-file
returns-in-Ok-clause-file c =
    let place : first_place (file_states c.args.files.now.items) (string_bytes c.args.self.now.name) ≡ Some c.in-Some.place =
    ap (λ (files : _). first_place (file_states files) (string_bytes c.args.self.now.name)) (sym c.deref.ensures.value) ∙ ap (first_place (file_states c.deref.result.now)) (sym c.as_str.ensures.value) ∙ sym c.in-Some.ensures in
    contents-set c.args.files.now.items (string_bytes c.args.self.now.name) c.in-Some.place c.index_mut-file.result.now _ (option_map (λ (old : List ℕ). old ++ c.args.piece.now)) place c.index_mut-file.ensures.value refl (ap Some c.in-Ok.ensures.second)

pub returns-in-Err-clause-file_stays : goal.returns-in-Err-clause-file_stays
returns-in-Err-clause-file_stays c = states-set c.args.files.now.items c.in-Some.place c.index_mut-file.result.now _ c.index_mut-file.ensures.value refl c.in-Err.ensures.second_stays

pub returns-in-Ok-extend_from_slice-clause-file : goal.returns-in-Ok-extend_from_slice-clause-file
returns-in-Ok-extend_from_slice-clause-file c =
    let place : first_place (file_states c.args.files.now.items) (string_bytes c.args.self.now.name) ≡ None =
    ap (λ (files : _). first_place (file_states files) (string_bytes c.args.self.now.name)) (sym c.deref.ensures.value) ∙ ap (first_place (file_states c.deref.result.now)) (sym c.as_str.ensures.value) ∙ sym c.in-None.ensures in
    contents-none c.args.files.now.items (string_bytes c.args.self.now.name) (λ (old : List ℕ). old ++ c.args.piece.now) place
