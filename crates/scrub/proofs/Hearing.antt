-- What a scrub does with a message, by what it found of it.
use Rattle.std.proofs.Common.{◌≡◌, ◌-◌, ◌<◌, ◌^◌, ℕ, Bool, true, false, Option, Some, None, refl, sym, ◌∙◌, ap, subst}
use Rattle.std.specs.List.{list_all}
use Rattle.std.proofs.lemmas.Bool.{false≢true}
use Rattle.fab_base.specs.declared.identities.BrickId.{BrickId}
use Rattle.fab_base.specs.declared.answers.Answer.TheVariants.{Aborted, Data}
use Rattle.fab_base.specs.declared.answers.Cause.TheVariants as cause
use Rattle.fab_base.specs.declared.stamps.Stamp.{Stamp}
use Rattle.messages.specs.declared.packets.Message.{Message}
use Rattle.messages.specs.declared.packets.Message.TheVariants as message
use Rattle.protocol.specs.declared.phases.Mover.{Mover}
use Rattle.protocol.specs.declared.phases.Phase.{Phase}
use Rattle.protocol.specs.declared.phases.Phase.TheVariants.{Looks}
use Rattle.protocol.specs.declared.tellings.ScrubAnswer.TheVariants as answer
use Rattle.protocol.specs.Coordinators as machine
use Rattle.protocol.specs.Coordinators.{answered_fast, answers_phase, fast_version, lowest_mover, pieces_of}
use Rattle.stripe_code.specs.Codes.{block_code}
use Rattle.coord_phase.specs.Operations.{Operation, counts, heard, heard_at}
use Rattle.coord_phase.proofs.Answered.{after_hearing, decided_with, ignored, is_full}
use Rattle.scrub.specs.declared.answers.ScrubNext.{ScrubNext}
use Rattle.scrub.specs.declared.answers.ScrubNext.TheVariants as next
use Rattle.scrub.specs.Scrubs.{Scrubbing}
use Rattle.scrub.specs.Decisions.{Hears, StandsFor}
use Rattle.scrub.proofs.Looking.{look_answered, look_moved, moved_none}

-- the replies of an operation all answer this phase
abbrev AnswerIn : Phase → Operation → Type 0
AnswerIn phase look = list_all (λ reply. answers_phase look.block look.state.stamp reply.seat phase reply.reply) look.state.counted ≡ true

-- a message does not change the phase
phase_at : (op : Operation) (from : BrickId) (told : Message) (seat : Option ℕ) → (heard_at op from told seat).state.phase ≡ op.state.phase
phase_at op from (message.Reply call reply) (Some seat) = refl
phase_at op from told seat = refl

pub phase_heard : (op : Operation) (from : BrickId) (told : Message) → (heard op from told).state.phase ≡ op.state.phase
phase_heard op from told = phase_at op from told _

module _ (before after : Scrubbing) (from : BrickId) (told : Message) (is : after.look ≡ heard before.look from told) where
  -- after a told that does not count it waits, as it was
  pub hears_ignored : counts before.look from told ≡ false → after.lagging ≡ before.lagging → Hears before from told next.Wait after
  hears_ignored out lagging =
      let look = is ∙ (ignored None before.look from told out).1 in
      record {
        ignored = λ out. (λ i. record { look = look i; lagging = lagging i });
        heard = is;
        stands = λ fresh some. absurd (false≢true (sym out ∙ some));
        kept = lagging;
      }

  -- after one that counts it does what stands for the machine's decision, by whether all have replied
  hears_so : (done : ScrubNext) (full : Bool) → counts before.look from told ≡ true → full ≡ is_full after.look
      → ((fresh : Option Stamp) → StandsFor after done (after_hearing fresh after.look full)) → after.lagging ≡ before.lagging
      → Hears before from told done after
  hears_so done full some all stands kept =
      record {
        ignored = λ out. absurd (false≢true (sym out ∙ some));
        heard = is;
        stands = λ fresh _. subst (StandsFor after done)
            (sym (decided_with fresh before.look from told full some (all ∙ ap is_full is) ∙ ap (λ (op : Operation). after_hearing fresh op full) (sym is)))
            (stands fresh);
        kept = kept;
      }

  module _ (some : counts before.look from told ≡ true) where
    pub hears_waiting : is_full after.look ≡ false → after.lagging ≡ before.lagging → Hears before from told next.Wait after
    hears_waiting few kept = hears_so next.Wait false some (sym few) (λ fresh. refl) kept

    module _ (all : is_full after.look ≡ true) (looks : after.look.state.phase ≡ Looks)
        (answers : AnswerIn after.look.state.phase after.look) where
      pub hears_moved : (m : Mover) → lowest_mover after.look.state.counted ≡ Some m → after.lagging ≡ before.lagging
          → Hears before from told (next.End (answer.Aborted (cause.Moved m.brick m.view))) after
      hears_moved m moved kept =
          hears_so (next.End (answer.Aborted (cause.Moved m.brick m.view))) true some (sym all)
          (λ fresh. (
            Aborted (cause.Moved m.brick m.view),
            look_moved after.look.block (block_code after.look.block) fresh after.look.state m looks moved
                ∙ ap (λ (seen : Option Stamp). machine.Ends (Aborted (cause.Moved m.brick m.view)) seen None) (sym (moved_none after.look.state.counted m moved)),
            refl,
          )) kept

      -- what is decided, where none serves the view no more
      by_version : (fresh : Option Stamp) (version : Option Stamp) → lowest_mover after.look.state.counted ≡ None → fast_version after.look.state.counted ≡ version
          → machine.decided after.look.block (block_code after.look.block) fresh after.look.state
          ≡ answered_fast (block_code after.look.block) after.look.state version
      by_version fresh version none is =
          look_answered after.look.block (block_code after.look.block) fresh after.look.state looks
          (subst (λ (phase : Phase). AnswerIn phase after.look) looks answers) none
          ∙ ap (answered_fast (block_code after.look.block) after.look.state) is

      pub hears_clean : (v : Stamp) → lowest_mover after.look.state.counted ≡ None → fast_version after.look.state.counted ≡ Some v
          → after.lagging ≡ before.lagging → Hears before from told (next.End answer.Clean) after
      hears_clean v none version kept =
          hears_so (next.End answer.Clean) true some (sym all)
          (λ fresh. (
            Data ((block_code after.look.block).decode after.look.state.group.m (pieces_of after.look.state.counted)),
            by_version fresh (Some v) none version
                ∙ ap (λ (seen : Option Stamp). machine.Ends (Data ((block_code after.look.block).decode after.look.state.group.m (pieces_of after.look.state.counted))) seen None)
                (sym version),
            refl,
          )) kept

      pub hears_apart : lowest_mover after.look.state.counted ≡ None → fast_version after.look.state.counted ≡ None
          → after.lagging ≡ before.lagging → after.look.state.call.phase < 2 ^ 32 - 1
          → Hears before from told next.Recover after
      hears_apart none version kept few =
          hears_so next.Recover true some (sym all) (λ fresh. (by_version fresh None none version, few, looks)) kept
