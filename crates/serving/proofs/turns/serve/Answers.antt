-- How a brick that is not halted ends, and what its disk shows.
use Rattle.node.proofs.Shown.{leaves_shown}
use Rattle.serving.proofs.Runs.{not_halted, sound_end}
use Rattle.serving.proofs.turns.serve.Goals as goal

pub returns-clause-durable : goal.returns-clause-durable
returns-clause-durable g c = λ told not_disk not.
    leaves_shown g.D.Disk _ _ _ _ (c.is_halted-2.ensures.stands told (c.serve_turns-served.ensures.runs not_disk))

pub returns-clause-runs : goal.returns-clause-runs
returns-clause-runs g c = λ runs not_disk. c.serve_turns-served.ensures.runs not_disk

pub returns-clause-only_halted : goal.returns-clause-only_halted
returns-clause-only_halted g c = λ e. absurd (not_halted _ _ _ _ _ _ _ _ c.serve_turns-served.ensures.served e)

pub returns-clause-sound : goal.returns-clause-sound
returns-clause-sound g c = λ runs disk link clock.
    sound_end c.serve_turns-served.result (c.serve_turns-served.ensures.disk.never disk) (c.serve_turns-served.ensures.link.never link) (c.serve_turns-served.ensures.clock.never clock)
    (λ e. not_halted _ _ _ _ _ _ _ _ c.serve_turns-served.ensures.served e)
