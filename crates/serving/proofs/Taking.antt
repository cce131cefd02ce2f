-- Turns, one after another.
use Rattle.std.proofs.Common.{◌≡◌, ◌+◌, ◌≤◌, List, [], ◌∷◌, ◌++◌, length, Option, refl, sym, ap, subst, ◌∙◌, append_assoc, append-nil, inl, inr, arith}
use Rattle.std.proofs.lemmas.List.{map-append}
use Rattle.fab_base.specs.declared.identities.BrickId.{BrickId}
use Rattle.protocol.specs.Settings.{Setting}
use Rattle.fab_io.specs.declared.links.Datagram.{Datagram}
use Rattle.serving.specs.declared.faults.ServeFault.{ServeFault}
use Rattle.serving.specs.declared.faults.ServeFault.TheVariants.{Disk, Halted, Link, Clock, NoMemory}
use Rattle.serving.specs.Serves.{Outside, RunsTurns, StopsBefore, StopsSending, Stops}
use Rattle.serving.specs.Servings.{Serving, served}
use Rattle.serving.specs.Turns.{Turn, AreRead, after_turns, sends_of, came_in, moments_of, malformed_in}
use Rattle.serving.specs.Datagrams.{datagrams_of, Looked}
use Rattle.serving.proofs.Carried.{datagrams_of-append}
use Rattle.serving.proofs.Looks.{Looked-none, Looked-trans}
use Rattle.fab_io.specs.Datagrams.{Stays, Grows}
use Rattle.fab_io.specs.Moments.{Passes}
use Rattle.fab_io.proofs.Told.{Stays-refl, Grows-none, Grows-trans, Passes-none, Passes-trans}

module _ (setting : Setting) (me : BrickId) where
  AreRead-append : (first later : List Turn) → AreRead setting me first → AreRead setting me later → AreRead setting me (first ++ later)
  AreRead-append [] later p q = q
  AreRead-append (turn ∷ first) later p q = (p.0, AreRead-append first later p.1 q)

  after_turns-append : (from : Serving) (first later : List Turn)
      → after_turns setting me from (first ++ later) ≡ after_turns setting me (after_turns setting me from first) later
  after_turns-append from [] later = refl
  after_turns-append from (turn ∷ first) later = after_turns-append (served setting me from turn.incoming turn.now).serving first later

  sends_of-append : (from : Serving) (first later : List Turn)
      → sends_of setting me from (first ++ later) ≡ sends_of setting me from first ++ sends_of setting me (after_turns setting me from first) later
  sends_of-append from [] later = refl
  sends_of-append from (turn ∷ first) later =
      let does = served setting me from turn.incoming turn.now in
      ap (λ l. does.sends ++ l) (sends_of-append does.serving first later)
      ∙ sym (append_assoc does.sends (sends_of setting me does.serving first) (sends_of setting me (after_turns setting me does.serving first) later))

  -- the datagrams of turns, and of more behind them
  datagrams-append : (from mid : Serving) (first later : List Turn) → mid ≡ after_turns setting me from first
      → datagrams_of (sends_of setting me from (first ++ later))
      ≡ datagrams_of (sends_of setting me from first) ++ datagrams_of (sends_of setting me mid later)
  datagrams-append from mid first later is =
      ap datagrams_of (sends_of-append from first later)
      ∙ datagrams_of-append (sends_of setting me from first) (sends_of setting me (after_turns setting me from first) later)
      ∙ ap (λ (s : Serving). datagrams_of (sends_of setting me from first) ++ datagrams_of (sends_of setting me s later)) (sym is)

  -- no turn
  pub RunsTurns-none : (from : Serving) (outside : Outside) → RunsTurns setting me from from outside outside []
  RunsTurns-none from outside =
      record {
        read = tt;
        looked = Looked-none outside.waiting outside.waiting (Stays-refl outside.waiting);
        moments = Passes-none outside.coming;
        left = refl;
        sent = Grows-none outside.sent outside.sent (Stays-refl outside.sent);
      }

  -- what turns leave, and more behind them
  left-append : (from mid to : Serving) (first later : List Turn) → mid ≡ after_turns setting me from first → to ≡ after_turns setting me mid later
      → to ≡ after_turns setting me from (first ++ later)
  left-append from mid to first later is more =
      more ∙ ap (λ (s : Serving). after_turns setting me s later) is ∙ sym (after_turns-append from first later)

  -- turns, and then more
  pub RunsTurns-more : (from mid to : Serving) (before between after : Outside) (first later : List Turn)
      → RunsTurns setting me from mid before between first → RunsTurns setting me mid to between after later
      → RunsTurns setting me from to before after (first ++ later)
  RunsTurns-more from mid to before between after first later p q =
      record {
        read = AreRead-append first later p.read q.read;
        looked = subst (Looked before.waiting after.waiting) (sym (map-append (λ (turn : Turn). turn.came) first later))
            (Looked-trans before.waiting between.waiting after.waiting (came_in first) (came_in later) p.looked q.looked);
        moments = subst (Passes before.coming after.coming) (sym (map-append (λ (turn : Turn). turn.now) first later))
            (Passes-trans before.coming between.coming after.coming (moments_of first) (moments_of later) p.moments q.moments);
        left = left-append from mid to first later p.left q.left;
        sent = subst (Grows before.sent after.sent) (sym (datagrams-append from mid first later p.left))
            (Grows-trans before.sent between.sent after.sent (datagrams_of (sends_of setting me from first)) (datagrams_of (sends_of setting me mid later)) p.sent q.sent);
      }

  -- turns, and then a stop before anything was done
  StopsBefore-more : (from mid to : Serving) (before between after : Outside) (turns : List Turn)
      → RunsTurns setting me from mid before between turns → StopsBefore setting me mid to between after []
      → StopsBefore setting me from to before after turns
  StopsBefore-more from mid to before between after turns p q =
      record {
        lost = q.lost;
        unused = q.unused;
        one_look = q.one_look;
        one_moment = q.one_moment;
        read = p.read;
        looked = Looked-trans before.waiting between.waiting after.waiting (came_in turns) q.lost p.looked q.looked;
        moments = Passes-trans before.coming between.coming after.coming (moments_of turns) q.unused p.moments q.moments;
        left = q.left ∙ p.left;
        sent = subst (Grows before.sent after.sent) (append-nil (datagrams_of (sends_of setting me from turns)))
            (Grows-trans before.sent between.sent after.sent (datagrams_of (sends_of setting me from turns)) [] p.sent q.sent);
      }

  -- turns, and then one whose datagrams were not all sent
  StopsSending-more : (from mid to : Serving) (before between after : Outside) (turns : List Turn)
      → RunsTurns setting me from mid before between turns → StopsSending setting me mid to between after []
      → StopsSending setting me from to before after turns
  StopsSending-more from mid to before between after turns p q =
      record {
        last = q.last;
        front = q.front;
        rest = q.rest;
        read = AreRead-append turns (q.last ∷ []) p.read q.read;
        looked = subst (Looked before.waiting after.waiting) (sym (map-append (λ (turn : Turn). turn.came) turns (q.last ∷ [])))
            (Looked-trans before.waiting between.waiting after.waiting (came_in turns) (came_in (q.last ∷ [])) p.looked q.looked);
        moments = subst (Passes before.coming after.coming) (sym (map-append (λ (turn : Turn). turn.now) turns (q.last ∷ [])))
            (Passes-trans before.coming between.coming after.coming (moments_of turns) (moments_of (q.last ∷ [])) p.moments q.moments);
        left = left-append from mid to turns (q.last ∷ []) p.left q.left;
        parts = datagrams-append from mid turns (q.last ∷ []) p.left
            ∙ ap (λ (l : List Datagram). datagrams_of (sends_of setting me from turns) ++ l) q.parts;
        sent = Grows-trans before.sent between.sent after.sent (datagrams_of (sends_of setting me from turns)) q.front p.sent q.sent;
      }

  -- turns, and then a stop
  pub Stops-more : (from mid to : Serving) (before between after : Outside) (turns : List Turn) (fault : ServeFault)
      → RunsTurns setting me from mid before between turns → Stops setting me mid to between after [] fault
      → Stops setting me from to before after turns fault
  Stops-more from mid to before between after turns Disk p q = StopsBefore-more from mid to before between after turns p q
  Stops-more from mid to before between after turns Clock p q = StopsBefore-more from mid to before between after turns p q
  Stops-more from mid to before between after turns Link p q = elim q [
    | inl stop ↦ inl (StopsBefore-more from mid to before between after turns p stop)
    | inr stop ↦ inr (StopsSending-more from mid to before between after turns p stop)
  ]
  Stops-more from mid to before between after turns NoMemory p q = elim q [
    | inl stop ↦ inl (StopsBefore-more from mid to before between after turns p stop)
    | inr stop ↦ inr (StopsSending-more from mid to before between after turns p stop)
  ]
  Stops-more from mid to before between after turns Halted p q = absurd q

  -- a look, or a look and a reading of the clock, and then a stop
  pub StopsBefore-look : (serving : Serving) (before after : Outside) (lost : List (Option Datagram)) → length lost ≤ 1
      → Looked before.waiting after.waiting lost → Passes before.coming after.coming [] → Stays before.sent after.sent
      → StopsBefore setting me serving serving before after []
  StopsBefore-look serving before after lost few looked passes sent =
      record {
        lost = lost;
        unused = [];
        one_look = few;
        one_moment = omega arith;
        read = tt;
        looked = looked;
        moments = passes;
        left = refl;
        sent = Grows-none before.sent after.sent sent;
      }

  -- a stop before anything was done may come with any fault that is met in a turn
  pub Stops-early : (from to : Serving) (before after : Outside) (fault : ServeFault) → (fault ≡ Halted → ⊥)
      → StopsBefore setting me from to before after [] → Stops setting me from to before after [] fault
  Stops-early from to before after Disk not stop = stop
  Stops-early from to before after Clock not stop = stop
  Stops-early from to before after Link not stop = inl stop
  Stops-early from to before after NoMemory not stop = inl stop
  Stops-early from to before after Halted not stop = absurd (not refl)

-- datagrams that are no message, in turns and in more of them
pub malformed_in-append : (first later : List Turn) → malformed_in (first ++ later) ≡ malformed_in first + malformed_in later
malformed_in-append [] later = omega arith
malformed_in-append (turn ∷ first) later = let more = malformed_in-append first later in omega (arith, more)
