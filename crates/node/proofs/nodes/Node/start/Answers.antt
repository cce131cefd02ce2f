-- What was opened is what the disk showed, restarted.
use Rattle.std.proofs.Common.{◌≡◌, ℕ, refl, sym, ◌∙◌, ap, subst, rules}
use Rattle.fab_base.specs.declared.identities.BrickId.{BrickId}
use Rattle.fab_disk.specs.Changing.{Whole, Stands}
use Rattle.frame_store.specs.declared.shapes.Shape.{Shape}
use Rattle.frame_store.specs.Layouts.{shape_of}
use Rattle.brick_state.specs.States.{live}
use Rattle.brick_store.specs.Openings.{IsListedOnOpening, IsWornOut}
use Rattle.brick_store.specs.declared.faults.OpenFault.TheVariants as faults
use Rattle.protocol.specs.Nodes.{Node, restarted}
use Rattle.node.specs.Running.{running, state_of, shape_at, ImageShows}
use Rattle.node.proofs.Requests.{live_seen}
use Rattle.node.proofs.Shown.{shown_so}
use Rattle.node.proofs.Starts.{counted_at, lists_fall, none_found, opens_at, refused_at, restarts_so}
use Rattle.node.proofs.nodes.Node.start.Given.{Over}
use Rattle.node.proofs.nodes.Node.start.Goals as goal
use Rattle.node.proofs.nodes.Node.start.Goals.{After-open_store}

-- the store that is opened is the brick's
shape_so : (g : Over) (c : After-open_store g) → shape_of c.args.me.0 c.block.result c.records.result ≡ shape_at c.args.layout c.args.me
shape_so g c = λ i. shape_of c.args.me.0 (c.block.ensures i) (c.records.ensures.value i)

pub returns-in-Err : goal.returns-in-Err
returns-in-Err g c =
    let here = c.in-Err.ensures in
    let fault = c.in-Err.refused.0 in
    let same = shape_so g (goal.at.returns-in-Err g c).After-open_store in
    let opens = refused_at g.D.Disk c.args.layout c.args.me c.args.disk _ same fault c.in-Err.refused.1 here.opens here.not_a_store in
    let not_a_store = none_found g.D.Disk c.args.layout c.args.me c.args.disk _ same fault c.in-Err.refused.1 here.opens here.not_a_store in
    let worn = subst (λ (s : Shape). fault ≡ faults.Worn → g.D.Disk.tells → IsWornOut s (g.D.Disk.seen c.args.disk)) same here.worn in
    search (rules, opens, not_a_store, worn)

pub returns-then-not-do_lists_stand : goal.returns-then-not-do_lists_stand
returns-then-not-do_lists_stand g c =
    let last = c.into_disk.result in
    let same = shape_so g (goal.at.returns-then-not-do_lists_stand g c).After-open_store in
    let opens = opens_at g.D.Disk c.args.layout c.args.me c.args.disk _ same last c.in-Ok.store.disk Whole c.into_disk.ensures.disk c.in-Ok.ensures.opens in
    let not_a_store = lists_fall g.D.Disk c.args.layout c.args.me c.args.disk _ same last c.in-Ok.store.state c.in-Ok.ensures.found
    (c.if-not-do_lists_stand.ensures.fall refl) in
    let worn : faults.NotAStore ≡ faults.Worn → g.D.Disk.tells → IsWornOut (shape_at c.args.layout c.args.me) (g.D.Disk.seen c.args.disk) = λ is. absurd cc in
    search (rules, opens, not_a_store, worn)

pub invariant_of-result : goal.invariant_of-result
invariant_of-result g c =
    let same = shape_so g (goal.at.invariant_of-result g c).After-open_store in
    record {
      shape_is = c.in-Ok.ensures.shape ∙ same ∙ ap (λ (brick : BrickId). shape_at c.args.layout brick) (sym c.new-tasks.ensures.me);
      boot = c.new-tasks.ensures.boot ∙ c.boot.ensures;
      lists = c.if-not-do_lists_stand.ensures.stand refl;
      tasks_are = c.new-tasks.ensures.of c.args.layout;
    }

pub returns : goal.returns
returns g c =
    let d = g.D.Disk in
    let disk = c.args.disk in
    let layout = c.args.layout in
    let me = c.args.me in
    let same = shape_so g (goal.at.returns g c).After-open_store in
    let store = c.in-Ok.store in
    let tasks = c.new-tasks.result in
    let found = counted_at d layout me disk _ same store.state c.in-Ok.ensures.found in
    let state : d.tells → (before : Node) → ImageShows layout me before (d.seen disk) → state_of (running layout tasks store) ≡ restarted 1 before =
    λ told before shows.
    restarts_so layout me tasks store c.boot.result before (d.seen disk) (c.new-tasks.ensures.boot ∙ c.boot.ensures) c.boot.ensures
    c.new-tasks.ensures.state shows (found told) in
    let stands : d.tells → Stands d (ImageShows layout me (state_of (running layout tasks store))) store.disk = λ told.
    subst (λ (brick : BrickId). Stands d (ImageShows layout brick (state_of (running layout tasks store))) store.disk) c.new-tasks.ensures.me
    (shown_so d layout tasks store store.disk (invariant_of-result g c) (c.in-Ok.ensures.stands told)) in
    let opens = opens_at d layout me disk _ same store.disk store.disk Whole refl c.in-Ok.ensures.opens in
    let listed : d.tells → IsListedOnOpening (shape_at layout me) (d.seen disk) (state_of (running layout tasks store)).live store.listed = λ told.
    subst (λ (n : ℕ). IsListedOnOpening (shape_at layout me) (d.seen disk) n store.listed) (live_seen layout tasks store)
    (subst (λ (s : Shape). IsListedOnOpening s (d.seen disk) (live store.state) store.listed) (c.in-Ok.ensures.shape ∙ same) (c.in-Ok.ensures.listed told)) in
    search (rules, found, state, stands, opens, listed)
