-- What is printed of a file that is accepted is accepted, and means the same.
use Rattle.std.proofs.Common.{ℕ, ◌≤◌, List, ap, sym, subst, ◌∙◌}
use Rattle.pil_syntax.specs.Printing.{IsDressing}
use Rattle.pil_ast.specs.Term.{Line, Namespace, columns_of}
use Rattle.pil_ast.specs.Sound.{IsItem, IsSound}
use Rattle.pil_names.specs.Outline.{outline_of}
use Rattle.pil_names.specs.Wrongs.{repeated}
use Rattle.pil_meaning.specs.Meaning.{meaning}
use Rattle.pil_meaning.specs.Soundness.{HasNumbers, IsUnbroken, UnbrokenIsSound}
use Rattle.pil_meaning.specs.Standing.{MeaningIsReading}
use Rattle.pil_print.specs.Laws.{KeepsMeaning}
use Rattle.pil_print.proofs.Outlines.{outline-is}
use Rattle.pil_print.proofs.Rereads.{meaning-again}
use Rattle.pil_print.proofs.Meanings.{meaning-named, meaning-placed}
use Rattle.pil_print.proofs.Unbroken.{unbroken-again, repeats-none}
use Rattle.pil_print.proofs.Files.{file-again}
use Rattle.pil_print.proofs.Valid.{meaning-names, tokens-again, numbers-again}
use Rattle.pil_print.proofs.Short.{short-again}

pub keeps_meaning : ((ns : List Namespace) (s : ℕ) (l : Line) → IsItem ns s l → columns_of l ≤ 4096) → IsDressing → MeaningIsReading → UnbrokenIsSound → KeepsMeaning
keeps_meaning few dressing reading sound ss h =
    let ns : List Namespace = meaning (outline_of ss) in
    let well : IsSound ns = sound ss h.file h.numbers h.short h.unbroken in
    let named = meaning-named reading (outline_of ss) h.repeated in
    let placed = meaning-placed reading (outline_of ss) h.unbroken.unknown in
    record {
      accepted = record {
        tokens = tokens-again few ns (meaning-names reading ss h.tokens) well;
        file = file-again dressing ss h.file;
        numbers = subst HasNumbers (sym (outline-is ns)) (numbers-again ns well);
        short = short-again ns well;
        repeated = ap repeated (outline-is ns) ∙ repeats-none ns named;
        unbroken = subst IsUnbroken (sym (outline-is ns)) (unbroken-again ns well named placed);
      };
      same = ap meaning (outline-is ns) ∙ meaning-again ns well named placed;
    }
