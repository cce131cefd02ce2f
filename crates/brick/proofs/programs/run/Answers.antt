-- What was done, and then printed.
use Rattle.brick.specs.Endings.{text_of}
use Rattle.brick.proofs.InOrder.{in_order}
use Rattle.brick.proofs.Printing.{kept_out, completes}
use Rattle.brick.proofs.programs.run.Goals as goal

pub returns : goal.returns
returns g c =
    let ending = c.work-ending.result in
    let done = c.work-ending.ensures in
    let last = c.finish.ensures in
    record {
      runs = record {
        said = g.K.Sink.told c.work-ending.new.out;
        ending = ending;
        works = done.works;
        printed = last.printed;
        asks = in_order _ _ _ _ _ _ _ _ _ (text_of ending) _ done.works last.printed;
        sink = kept_out c.args.words.work ending c.finish.result done.sink last.kept;
      };
      stays = done.stays;
      complete = λ s sink may. completes ending _ _ (text_of ending) c.finish.result (done.done s sink may) last.printed (last.kept.never (done.sink.stays sink));
    }
