use Rattle.std.proofs.Common.{◌<◌, ◌≤◌, ◌-◌, length, get_or}
use Rattle.pil_print.proofs.tables.last_up_to.Given as goal

abbrev pub invariant-search : goal.invariant-search
invariant-search l =
    record {
      ordered : l.low < l.high;
      within : l.high ≤ length l.firsts;
      low : get_or l.firsts l.low 0 ≤ l.column;
      high : l.high < length l.firsts → l.column < get_or l.firsts l.high 0;
    }

abbrev pub decreases-search : goal.decreases-search
decreases-search l = l.high - l.low
