-- The meaning of a short file that breaks no rule is sound.
use Rattle.std.proofs.Common.{ℕ, ◌≡◌, ◌<◌, List, [], length, All, false, arith}
use Rattle.std.specs.List.{flat_map}
use Rattle.pil_syntax.specs.Grammar.{limits}
use Rattle.pil_ast.specs.Term.{space_at}
use Rattle.pil_ast.specs.Sound.{IsSpace}
use Rattle.pil_names.specs.Outline.{Draft, Home, Outline, outline_of, home_at}
use Rattle.pil_names.specs.Wrongs.{terms_of, bad_size, bad_row_of_draft, each_item, unknown_in_size, unknown_in_draft, mixed_in_draft, wrong_widths_of}
use Rattle.pil_meaning.specs.Meaning.{meaning}
use Rattle.pil_meaning.specs.Marks.{double_in_draft}
use Rattle.pil_meaning.specs.Soundness.{IsInField, HasNumbers, IsUnbroken, UnbrokenIsSound}
use Rattle.pil_meaning.proofs.Nothing.{left_nil, right_nil, all_nil, each_draft, home_all}
use Rattle.pil_meaning.proofs.Places.{reading}
use Rattle.pil_meaning.proofs.Signs.{meaning-signs}
use Rattle.pil_meaning.proofs.Parts.{HasParts, file-parts}
use Rattle.pil_meaning.proofs.Lines.{IsKept, space-sound}

space : (o : Outline) → HasNumbers o → IsUnbroken o → All (λ (h : Home). All HasParts h.items) o.homes → (s : ℕ) → s < length o.homes → IsSpace (meaning o) s (space_at (meaning o) s)
space o numbers h parts s l =
    let drafts : List Draft = (home_at o.homes s).items in
    let names : All (λ d. unknown_in_draft o s d ≡ []) drafts = each_draft (unknown_in_draft o) o s (right_nil (flat_map (λ (h : Home). unknown_in_size o h.size) o.homes) (each_item (unknown_in_draft o) o) h.unknown) l in
    let rows : All (λ d. bad_row_of_draft o s d ≡ []) drafts = each_draft (bad_row_of_draft o) o s (right_nil (flat_map (λ (h : Home). bad_size o h.size) o.homes) (each_item (bad_row_of_draft o) o) h.bad_rows) l in
    let here : All (λ d. mixed_in_draft o s d ≡ []) drafts = each_draft (mixed_in_draft o) o s h.mixed l in
    let widths : All (λ d. wrong_widths_of d ≡ []) drafts = each_draft (λ s d. wrong_widths_of d) o s h.wrong_widths l in
    let single : All (λ d. double_in_draft o s d ≡ []) drafts = each_draft (double_in_draft o) o s h.double l in
    let small : All (λ d. All IsInField (terms_of d)) drafts = home_all (λ h. All (λ d. All IsInField (terms_of d)) h.items) o.homes s numbers.terms l in
    let has : All HasParts drafts = home_all (λ h. All HasParts h.items) o.homes s parts l in
    let size : bad_size o (home_at o.homes s).size ≡ [] = home_all (λ h. bad_size o h.size ≡ []) o.homes s (all_nil (λ (h : Home). bad_size o h.size) o.homes (left_nil (flat_map (λ (h : Home). bad_size o h.size) o.homes) (each_item (bad_row_of_draft o) o) h.bad_rows)) l in
    let kept : All (IsKept o (meaning o) (reading o) numbers.constants s) drafts =
    λ k d w. record { known = names k d w; rows = rows k d w; here = here k d w; widths = widths k d w; single = single k d w; numbers = small k d w; parts = has k d w } in
    space-sound o (meaning o) (reading o) numbers.constants s l size kept (h.acyclic s)

pub sound : UnbrokenIsSound
sound ss file numbers short h =
    let o : Outline = outline_of ss in
    record {
      spaces = λ s l. space o numbers h (file-parts limits false ss file).homes s (omega (arith, (reading o).long));
      signs = omega (arith, short, meaning-signs ss);
    }
