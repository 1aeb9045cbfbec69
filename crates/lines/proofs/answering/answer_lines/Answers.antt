-- `lines::answering::answer_lines` meets its contract: nothing was read before, and nothing stood in the output.
use Rattle.lines.proofs.answering.answer_lines.Goals as goal

pub returns : goal.returns
returns g c =
    record {
      reading = c.answer_each.new.input;
      output = c.answer_each.new.out;
      all = rw (c.new-input.ensures, c.new-out.ensures) at c.answer_each.ensures;
    }
