use Rattle.pil_text.proofs.Printed.{reads_back, few_signs}
use Rattle.pil_text.proofs.laws.printed_reads_back.Goals as goal

pub returns : goal.returns
returns c = record {
  same = reads_back c.tokens_give.ensures.numbers c.tokens_give.ensures.signs c.tokens_give.ensures.text c.named_is_closed.ensures.closed c.without_cycle_are_ranked.ensures c.lexed_tokens.ensures.tokens c.ranked_have_no_cycle.ensures c.printed_text.ensures.text;
  short = few_signs c.tokens_give.ensures.numbers c.tokens_give.ensures.signs c.tokens_give.ensures.text c.named_is_closed.ensures.closed c.without_cycle_are_ranked.ensures c.lexed_tokens.ensures.tokens c.ranked_have_no_cycle.ensures c.printed_text.ensures.text;
}
