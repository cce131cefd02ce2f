-- Rounds of a command, one after another.
use Rattle.std.proofs.Common.{◌≡◌, ℕ, ◌+◌, List, [], ◌∷◌, ◌++◌, length, Option, Some, None, Result, Ok, Err, OnOk, refl, sym, ap, subst, ◌∙◌, append_assoc, append-nil, arith}
use Rattle.std.proofs.lemmas.List.{length-append}
use Rattle.fab_base.specs.declared.answers.Answer.{Answer}
use Rattle.fab_base.specs.declared.answers.Refusal.{Refusal}
use Rattle.fab_io.specs.declared.links.Datagram.{Datagram}
use Rattle.fab_io.specs.Datagrams.{Stays, Grows}
use Rattle.fab_io.proofs.Told.{Grows-none, Grows-trans}
use Rattle.front.specs.Ranges.{Progress, next_of, after_end}
use Rattle.front.specs.declared.steps.RangeAnswer.{RangeAnswer}
use Rattle.hosting.specs.Asks.{wanted_in, Hears}
use Rattle.hosting.specs.declared.clients.Standing.TheVariants.{Waits}
use Rattle.hosting.specs.declared.replies.Wanted.{Wanted}
use Rattle.hosting.specs.Commanded.{Asking, asking, sent_by, asks_by, after_round, asks_after, Stands}
use Rattle.serving.specs.Datagrams.{Looked}
use Rattle.hosting.specs.Rounds.{Heard, IsOpen, AreHeard, after_rounds, asks_in, came_in, Took, Told, HearsOnce, EndsAs, RunsRange}
use Rattle.serving.proofs.Looks.{Grows-stays, Looked-none, Looked-stays, Looked-trans}

-- ---- a round

-- one in which the operation ended
pub HearsOnce-end : {T E : Type 0} (r : Result T E) (port sent sent_after : ℕ) (range mid : Progress) (wanted : Wanted) (link between after : Told)
    (came : Option Datagram) (end : Result Answer Refusal) → Stands range (Waits wanted) → Looked link.waiting between.waiting (came ∷ [])
    → Stays link.sent between.sent → Hears port sent wanted came (Some end) → mid ≡ after_end range end
    → Stays between.waiting after.waiting → OnOk r (Grows between.sent after.sent (asks_by port sent (next_of mid)))
    → OnOk r (sent_after ≡ sent_by sent (next_of mid))
    → OnOk r ((heard : Heard) × HearsOnce port (record { sent = sent; range = range }) (record { sent = sent_after; range = mid }) link after heard)
HearsOnce-end (Ok x) port sent sent_after range mid wanted link between after came end stands looked unsent hears ended waiting asks count =
    let number = count ∙ ap (λ (p : Progress). sent_by sent (next_of p)) ended in (
      record { came = came; end = Some end },
      record {
        waits = stands.0;
        hears = subst (λ (w : Wanted). Hears port sent w came (Some end)) stands.1 hears;
        looked = Looked-stays link.waiting between.waiting after.waiting (came ∷ []) looked waiting;
        left = (λ i. record { sent = number i; range = ended i });
        asked = Grows-stays link.sent between.sent after.sent (asks_by port sent (next_of (after_end range end))) unsent
            (subst (λ (p : Progress). Grows between.sent after.sent (asks_by port sent (next_of p))) ended asks);
      },
    )
HearsOnce-end (Err e) port sent sent_after range mid wanted link between after came end stands looked unsent hears ended waiting asks count = tt

-- one in which it did not
pub HearsOnce-none : (port sent : ℕ) (range : Progress) (wanted : Wanted) (link after : Told) (came : Option Datagram) → Stands range (Waits wanted)
    → Looked link.waiting after.waiting (came ∷ []) → Stays link.sent after.sent → Hears port sent wanted came None
    → (heard : Heard) × HearsOnce port (record { sent = sent; range = range }) (record { sent = sent; range = range }) link after heard
HearsOnce-none port sent range wanted link after came stands looked unsent hears = (
  record { came = came; end = None },
  record {
    waits = stands.0;
    hears = subst (λ (w : Wanted). Hears port sent w came None) stands.1 hears;
    looked = looked;
    left = refl;
    asked = Grows-none link.sent after.sent unsent;
  },
)

-- ---- one more round

AreHeard-more : (port : ℕ) (before : Asking) (rounds : List Heard) (heard : Heard) → AreHeard port before rounds
    → IsOpen (after_rounds before rounds).range × Hears port (after_rounds before rounds).sent (wanted_in (after_rounds before rounds).range) heard.came heard.end
    → AreHeard port before (rounds ++ (heard ∷ []))
AreHeard-more port before [] heard are one = (one, tt)
AreHeard-more port before (round ∷ rounds) heard are one =
    (are.0, AreHeard-more port (after_round before round.end) rounds heard are.1 one)

after_rounds-more : (before : Asking) (rounds : List Heard) (heard : Heard)
    → after_rounds before (rounds ++ (heard ∷ [])) ≡ after_round (after_rounds before rounds) heard.end
after_rounds-more before [] heard = refl
after_rounds-more before (round ∷ rounds) heard = after_rounds-more (after_round before round.end) rounds heard

asks_in-more : (port : ℕ) (before : Asking) (rounds : List Heard) (heard : Heard)
    → asks_in port before (rounds ++ (heard ∷ [])) ≡ asks_in port before rounds ++ asks_after port (after_rounds before rounds) heard.end
asks_in-more port before [] heard = append-nil (asks_after port before heard.end)
asks_in-more port before (round ∷ rounds) heard =
    let first = asks_after port before round.end in
    ap (λ l. first ++ l) (asks_in-more port (after_round before round.end) rounds heard)
    ∙ sym (append_assoc first (asks_in port (after_round before round.end) rounds) (asks_after port (after_rounds (after_round before round.end) rounds) heard.end))

came_in-more : (rounds : List Heard) (heard : Heard) → came_in (rounds ++ (heard ∷ [])) ≡ came_in rounds ++ (heard.came ∷ [])
came_in-more [] heard = refl
came_in-more (round ∷ rounds) heard = ap (λ l. round.came ∷ l) (came_in-more rounds heard)

pub Took-more : {A : Type 0} (takes : A → A → Type 0) (rounds : List Heard) (heard : Heard) (a b c : A) → Took takes rounds a b → takes b c
    → Took takes (rounds ++ (heard ∷ [])) a c
Took-more takes [] heard a b c took one = (c, subst (λ x. takes x c) took one, refl)
Took-more takes (round ∷ rounds) heard a b c took one = (took.0, took.1, Took-more takes rounds heard took.0 b c took.2 one)

-- ---- a range in its rounds

-- where a range stands after some rounds
pub record IsRunning {A : Type 0} (takes : A → A → Type 0) (port : ℕ) (first : Progress) (sent turns turns_now : ℕ) (now : Asking)
    (link link_now : Told) (bricks bricks_now : A) : Type 0 where
  pub rounds : List Heard
  pub heard : AreHeard port (asking sent first) rounds
  pub counted : turns ≡ turns_now + length rounds
  pub looked : Looked link.waiting link_now.waiting (came_in rounds)
  pub asked : Grows link.sent link_now.sent (asks_by port sent (next_of first) ++ asks_in port (asking sent first) rounds)
  pub left : now ≡ after_rounds (asking sent first) rounds
  pub took : Took takes rounds bricks bricks_now

-- the client asks for its first operation
pub asking_is : (sent sent_after : ℕ) (range : Progress) → sent_after ≡ sent_by sent (next_of range)
    → (let now : Asking = record { sent = sent_after; range = range } in now) ≡ asking sent range
asking_is sent sent_after range count = (λ i. record { sent = count i; range = range })

-- it begins: its client asks for its first operation
pub IsRunning-first : {A : Type 0} (takes : A → A → Type 0) (port : ℕ) (first : Progress) (sent turns : ℕ) (now : Asking) (link link_now : Told) (bricks : A)
    → now ≡ asking sent first → Stays link.waiting link_now.waiting
    → Grows link.sent link_now.sent (asks_by port sent (next_of first))
    → IsRunning takes port first sent turns turns now link link_now bricks bricks
IsRunning-first takes port first sent turns now link link_now bricks is stays asked =
    record {
      rounds = [];
      heard = tt;
      counted = omega arith;
      looked = Looked-none link.waiting link_now.waiting stays;
      asked = subst (Grows link.sent link_now.sent) (sym (append-nil (asks_by port sent (next_of first)))) asked;
      left = is;
      took = refl;
    }

-- one more round
pub IsRunning-more : {A : Type 0} (takes : A → A → Type 0) (port : ℕ) (first : Progress) (sent turns turns_now turns_then : ℕ) (now then : Asking)
    (link link_now link_then : Told) (bricks bricks_now bricks_then : A) (heard : Heard)
    → IsRunning takes port first sent turns turns_now now link link_now bricks bricks_now → turns_now ≡ turns_then + 1 → takes bricks_now bricks_then
    → HearsOnce port now then link_now link_then heard
    → IsRunning takes port first sent turns turns_then then link link_then bricks bricks_then
IsRunning-more takes port first sent turns turns_now turns_then now then link link_now link_then bricks bricks_now bricks_then heard h fewer one once =
    let from = asking sent first in
    let begun = asks_by port sent (next_of first) in
    record {
      rounds = h.rounds ++ (heard ∷ []);
      heard = AreHeard-more port from h.rounds heard h.heard
          (subst (λ (a : Asking). IsOpen a.range × Hears port a.sent (wanted_in a.range) heard.came heard.end) h.left (once.waits, once.hears));
      counted = omega (arith, h.counted, fewer, length-append h.rounds (heard ∷ []));
      looked = subst (Looked link.waiting link_then.waiting) (sym (came_in-more h.rounds heard))
          (Looked-trans link.waiting link_now.waiting link_then.waiting (came_in h.rounds) (heard.came ∷ []) h.looked once.looked);
      asked = subst (Grows link.sent link_then.sent)
          (append_assoc begun (asks_in port from h.rounds) (asks_after port now heard.end)
          ∙ ap (λ l. begun ++ l) (ap (λ (a : Asking). asks_in port from h.rounds ++ asks_after port a heard.end) h.left ∙ sym (asks_in-more port from h.rounds heard)))
          (Grows-trans link.sent link_now.sent link_then.sent (begun ++ asks_in port from h.rounds) (asks_after port now heard.end) h.asked once.asked);
      left = once.left ∙ ap (λ (a : Asking). after_round a heard.end) h.left ∙ sym (after_rounds-more from h.rounds heard);
      took = Took-more takes h.rounds heard bricks bricks_now bricks_then h.took one;
    }

-- it ends so
pub RunsRange-ends : {A : Type 0} (takes : A → A → Type 0) (port : ℕ) (first : Progress) (sent turns turns_now : ℕ) (now : Asking) (link link_now : Told)
    (bricks bricks_now : A) (answer : Option RangeAnswer) → IsRunning takes port first sent turns turns_now now link link_now bricks bricks_now
    → EndsAs now.range turns_now answer
    → (rounds : List Heard) × RunsRange port first sent now.sent turns turns_now link link_now rounds answer × Took takes rounds bricks bricks_now
RunsRange-ends takes port first sent turns turns_now now link link_now bricks bricks_now answer h ends = (
  h.rounds,
  record {
    heard = h.heard;
    counted = h.counted;
    looked = h.looked;
    asked = h.asked;
    sent_is = ap (λ (a : Asking). a.sent) h.left;
    ends = subst (λ (a : Asking). EndsAs a.range turns_now answer) h.left ends;
  },
  h.took,
)
