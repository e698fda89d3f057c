use Rattle.mem_rows.proofs.Walked.{word_more}
use Rattle.mem_rows.proofs.out.push_words.Goals as goal

pub loop-k-preserved : goal.loop-k-preserved
loop-k-preserved c = word_more c.args.public.now c.loop-k.k _ _ _ _ c.loop-k.invariant c.output_word.ensures c.in_ok-push.ensures.items
