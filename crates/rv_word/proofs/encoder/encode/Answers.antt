use Rattle.std.proofs.Common.{sym, ◌∙◌}
use Rattle.rv_word.proofs.Encoding.{encoding-only, encoding-stands, encoding-fence}
use Rattle.rv_word.proofs.encoder.encode.Goals as goal

pub returns-clause-word : goal.returns-clause-word
returns-clause-word c = rw c.encoded.ensures (encoding-stands c.args.i.now c.requires)

pub returns-clause-fence : goal.returns-clause-fence
returns-clause-fence c = λ e. c.encoded.ensures ∙ encoding-fence c.args.i.now e

pub returns-clause-only : goal.returns-clause-only
returns-clause-only c = λ w h stands other. sym (encoding-only w c.args.i.now h stands other) ∙ sym c.encoded.ensures
