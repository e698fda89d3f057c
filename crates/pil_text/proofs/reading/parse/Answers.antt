use Rattle.pil_syntax.specs.Shown.{sentences}
use Rattle.pil_ast.specs.Tree.{namespaces}
use Rattle.pil_names.specs.Shown.{outlined}
use Rattle.pil_text.proofs.Whole.{reads, is_sound}
use Rattle.pil_text.proofs.reading.parse.Goals as goal

pub returns-in-Ok-clause-found : goal.returns-in-Ok-clause-found
returns-in-Ok-clause-found c = reads c.args.text.now (sentences c.in_ok-syntax.syntax) (outlined c.in_ok-outline.outline) (namespaces c.in-Ok.pil) c.in_ok-syntax.ensures.found c.in_ok-outline.ensures c.in-Ok.ensures.clear c.in-Ok.ensures.meant

pub returns-in-Ok-clause-sound : goal.returns-in-Ok-clause-sound
returns-in-Ok-clause-sound c = is_sound c.args.text.now (sentences c.in_ok-syntax.syntax) (outlined c.in_ok-outline.outline) (namespaces c.in-Ok.pil) c.tokens_give.ensures.numbers c.tokens_give.ensures.signs c.tokens_give.ensures.text c.named_is_closed.ensures.closed c.unbroken_is_sound.ensures.sound c.without_cycle_are_ranked.ensures c.in_ok-syntax.ensures.found c.requires c.in_ok-outline.ensures c.in-Ok.ensures.clear c.in-Ok.ensures.meant
