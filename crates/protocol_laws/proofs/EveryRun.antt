-- The laws hold in every world that a run reaches.
use Rattle.std.proofs.Common.{List, [], sym}
use Rattle.std.proofs.lemmas.List.{append-nil}
use Rattle.protocol.specs.Settings.{Setting, IsSound}
use Rattle.protocol.specs.Views.{Views, views_in}
use Rattle.protocol.specs.Worlds.{World, Event, first_world, run}
use Rattle.protocol_laws.specs.Laws.{Follows, OldVersionsAreFound, DroppedAreReplaced, SyncedStand, RefusalsWereTrue, WritesWereGuarded, Laws, EveryRunKeepsTheLaws}
use Rattle.protocol_laws.specs.SyncEnds.{SyncsShow}
use Rattle.protocol_laws.proofs.Books.{Books}
use Rattle.protocol_laws.proofs.BooksEvents.{books}
use Rattle.protocol_laws.proofs.Chains.{neighbours_follow, lowest_follows}
use Rattle.protocol_laws.proofs.Moments.{refusals_true}
use Rattle.protocol_laws.proofs.Numbers.{IsNumbered, always_numbered}
use Rattle.protocol_laws.proofs.QuorumFacts.{QuorumFacts, facts}
use Rattle.protocol_laws.proofs.Said.{Stamping, Said}
use Rattle.protocol_laws.proofs.SaidAlways.{always_said}
use Rattle.view_laws.proofs.Followed.{every_run_follows}
use Rattle.view_laws.specs.Syncs.{SyncsAreSaidIn}
use Rattle.view_laws.proofs.SyncedViews.{syncs_are_said}
use Rattle.protocol_laws.proofs.OldFound.{synced_stand, old_found}
use Rattle.protocol_laws.proofs.Replaced.{dropped_replaced}
use Rattle.protocol_laws.proofs.TriesEvents.{always_tried, syncs_show, scrubs_show}
use Rattle.protocol_laws.proofs.ViewLaws.{one_content, writes_guarded, bases_newest, collects_stand, drops_older}
use Rattle.protocol_laws.proofs.Tallies.{Tallied}
use Rattle.protocol_laws.proofs.TalliesEvents.{tallied}
use Rattle.reg_model.proofs.StripeLives.{well_formed_stripe, numbers_from_one}
use Rattle.protocol_laws.proofs.Walks.{happenings_strict}
use Rattle.protocol_laws.proofs.Guards.{writes_were_guarded}
use Rattle.protocol_laws.proofs.Tries.{Tried}
use Rattle.protocol_laws.specs.ScrubEnds.{ScrubsShow}

-- the laws, from the books, from what quorums show, and from the history of replies
laws : (setting : Setting) (views : Views) (w : World) (stamps : Stamping) → Books setting w → Said setting views w stamps → Follows setting.layout views w
    → OldVersionsAreFound setting w
    → DroppedAreReplaced setting views w → SyncedStand setting views w → WritesWereGuarded setting views w → QuorumFacts setting views w → Tallied w
    → SyncsShow w → ScrubsShow setting views w → IsNumbered w → RefusalsWereTrue setting w → Laws setting views w
laws setting views w stamps booked said follows old replaced synced guards facts history stopped scrubbed numbered truths = record {
  one_content = one_content setting views w stamps said;
  first_is_zero = facts.first;
  contents_are_made = facts.contents;
  guarded = writes_guarded setting views w stamps said;
  guarded_when_sent = guards;
  stored = facts.stored;
  collects = collects_stand setting views w stamps said;
  drops = drops_older setting views w stamps said;
  replaced = replaced;
  synced = synced;
  bases = bases_newest setting views w stamps said;
  bases_found = facts.bases_found;
  old_found = old;
  neighbours = λ g s. neighbours_follow setting views w g s booked facts;
  lowest = λ g s. lowest_follows setting views w g s booked facts;
  real_time = facts.real_time;
  counted = history.counted;
  aborts = history.aborts;
  stopped = stopped;
  scrubbed = scrubbed;
  own_marks = booked.own;
  refusals = truths;
  full = facts.full;
  well_formed = booked.well_formed;
  without_gaps = record { placed = booked.places; numbered = numbered.each };
  words = facts.words;
  stripe_well_formed = λ g s. well_formed_stripe g s w.marks booked.well_formed (numbers_from_one w.marks (λ n life is. (booked.lives n life is).0));
  strict = λ g s group is. happenings_strict setting views w g s booked facts group is;
}

-- the laws of every run
pub every_run : EveryRunKeepsTheLaws
every_run setting views events sound follows =
    let w : World = run setting events (first_world setting.layout) in
    let said = always_said setting views events sound follows in
    let syncs : SyncsAreSaidIn setting.layout w = syncs_are_said setting events sound in
    let history : Tallied w = tallied setting views events sound follows in
    let tried : Tried setting views w = always_tried setting views events sound follows in
    laws setting views w said.0 (books setting events) said.1 (follows events [] (sym (append-nil events)))
    (old_found setting views sound w said.0 (books setting events) said.1 syncs.called)
    (dropped_replaced setting views sound w said.0 (books setting events) said.1 syncs)
    (synced_stand setting views sound w said.0 (books setting events) said.1)
    (writes_were_guarded setting views events sound follows)
    (facts setting views sound w said.0 (books setting events) said.1)
    history
    (syncs_show setting views w tried history)
    (scrubs_show setting views w tried history)
    (always_numbered setting events)
    (refusals_true setting events)

-- for the members that its messages teach
pub every_views_run : (setting : Setting) (events : List Event) → IsSound setting
    → (let w = run setting events (first_world setting.layout) in Laws setting (views_in setting.layout w.packets) w)
every_views_run setting events sound =
    every_run setting (views_in setting.layout (run setting events (first_world setting.layout)).packets) events sound (every_run_follows setting events sound)
