-- The refusal of a text for want of memory.
use Rattle.pil_token.specs.declared.token.LexErr.{LexErr}
use Rattle.pil_token.specs.declared.token.LexKind.TheVariants.{NoMemory}

abbrev pub no_memory : LexErr
no_memory = record { kind = NoMemory; at = 0 }
