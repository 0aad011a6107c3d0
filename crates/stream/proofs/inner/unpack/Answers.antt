-- `stream::inner::unpack` meets its contract: the words are those of the bytes.
-- Assumes nothing.
use mathlib.Core.Path.{sym, ap, ◌∙◌}
use native.Mathlib.Omega.{arith}
use lib.ListN.{length}
use lib.Seq.{length-take-le}
use borrow.Author.Rules.{rules}
use Rattle.records.specs.Laying.{pen, laid}
use Rattle.course.specs.Run.{Ended}
use Rattle.bounded.specs.Laid.{Told}
use Rattle.stream.specs.Cases.{answer_of}
use Rattle.stream.proofs.WordLaws.{unpacked}
use Rattle.stream.proofs.inner.unpack.Goals as goal

pub slice_bounds-answer_numbers-end-2 : goal.slice_bounds-answer_numbers-end-2
slice_bounds-answer_numbers-end-2 c = sym (length-take-le _ _ (search rules))

pub slice_bounds-answer_numbers-end-4 : goal.slice_bounds-answer_numbers-end-4
slice_bounds-answer_numbers-end-4 c = sym (length-take-le _ _ (search rules))

pub returns : goal.returns
returns c =
    let a = c.args in
    let p = c.requires in record {
      by_index = λ b H. c.answer_numbers.ensures.by_index b H
          ∙ ap (λ (x : Told Ended). laid (answer_of x) (pen a.out.now 0)) (unpacked b a.noise.now a.words.now c.read.new.out c.read-2.new.out (length a.first.now) (length a.second.now) c.read.ensures c.read-2.ensures (omega (arith, p.0, p.2)) (omega (arith, p.1, p.3)));
      upper_bound = c.answer_numbers.ensures.upper_bound;
    }
