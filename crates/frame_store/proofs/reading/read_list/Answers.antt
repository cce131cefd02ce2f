use Rattle.std.proofs.Common.{rules, ◌≡◌, ◌⊎◌, inl, inr, ⊎_elim, ◌+◌, ◌-◌, ◌++◌, ℕ, List, Err, true, refl, sym, ◌∙◌, ap, subst, arith}
use Rattle.std.proofs.lemmas.Bool.{cases_lt}
use Rattle.std.proofs.lemmas.Result.{err_from_is_err_and}
use Rattle.frame_store.specs.declared.frames.Frame.{Frame}
use Rattle.frame_store.specs.declared.faults.OpenFault.TheVariants.{NoMemory}
use Rattle.frame_store.specs.Listed.{spelled, size_of, AreShort}
use Rattle.frame_store.specs.Images.{part}
use Rattle.frame_store.specs.Reading.{IsPiece, IsListOf}
use Rattle.frame_store.proofs.Listing.{size_of-append, are_short-append}
use Rattle.frame_store.proofs.Pieces.{read_on, list_read}
use Rattle.frame_store.proofs.Stills.{still_then, still_none}
use Rattle.frame_store.proofs.reading.read_list.Goals.{then-closed-via-then-closed, then-closed-via-else-closed+then-end-limit}
use Rattle.frame_store.proofs.reading.read_list.Goals as goal

pub loop-piece-init : goal.loop-piece-init
loop-piece-init g c =
    let none = c.new-listing.ensures in
    record {
      makes = λ first old made. subst (λ (l : List Frame). g.T.TakesFrames.makes first old l c.args.taker.now) (sym none) made;
      short = λ told. subst AreShort (sym none) tt;
      place = omega (arith, ap size_of none);
      below = c.requires.below;
      some = omega (arith, c.in_ok-piece.ensures.len);
      still = still_none g.D.Disk c.args.disk.now;
      certain = refl;
      read = λ told. ap (λ (l : List Frame). spelled l ++ part c.args.from (c.args.limit - c.args.from) (g.D.Disk.seen c.args.disk.now)) (sym none);
    }

pub returns-in_err-listed-clause-still : goal.returns-in_err-listed-clause-still
returns-in_err-listed-clause-still g c =
    let p = err_from_is_err_and c.from_residual-in_err-listed.result c.from_residual-in_err-listed.ensures.1 in
    still_then g.D.Disk g.met.D.Disk.counts_now c.args.disk.now c.loop-piece.disk c.next_piece.new.disk _ _ (λ is. cc (p.1, p.2, is))
    c.loop-piece.invariant.still c.in_err-listed.ensures.still

pub returns-in_err-piece-2-clause-still : goal.returns-in_err-piece-2-clause-still
returns-in_err-piece-2-clause-still g c =
    let refused : c.from_residual-in_err-piece-2.result ≡ Err NoMemory = search rules in
    still_then g.D.Disk g.met.D.Disk.counts_now c.args.disk.now c.loop-piece.disk c.next_piece.new.disk _ _ (λ is. absurd (cc (refused, is)))
    c.loop-piece.invariant.still c.in_ok-listed.ensures.still

pub returns-then-closed-clause-still : goal.returns-then-closed-clause-still
returns-then-closed-clause-still g c = still_then g.D.Disk g.met.D.Disk.counts_now c.args.disk.now c.loop-piece.disk c.next_piece.new.disk _ _ (λ is. absurd cc)
    c.loop-piece.invariant.still c.in_ok-listed.ensures.still

pub returns-then-closed-clause-makes : goal.returns-then-closed-clause-makes
returns-then-closed-clause-makes g c = λ first old made.
    c.in_ok-listed.ensures.makes first old (c.loop-piece.invariant.makes first old made)

pub returns-then-closed-clause-counted : goal.returns-then-closed-clause-counted
returns-then-closed-clause-counted g c =
    let front = c.in_ok-listed.ensures.front in (
      omega (arith, size_of-append c.loop-piece.listing.frames front.0, ap size_of front.1, front.2, c.loop-piece.invariant.place),
      omega (arith, front.3, c.in_ok-listed.ensures.count, c.loop-piece.invariant.below),
    )

pub returns-then-closed-clause-read : goal.returns-then-closed-clause-read
returns-then-closed-clause-read g c = λ told.
    let image = g.D.Disk.seen c.args.disk.now in
    let taken = c.in_ok-listed.field-0 in
    let at = c.loop-piece.at in
    let l = c.loop-piece.invariant in
    let front = c.in_ok-listed.ensures.front in
    let piece = subst (λ (x : List ℕ). IsPiece (part at taken.len x) front.0 taken.used taken.closed) l.still.untouched.content (front.4 told) in
    let ends : (taken.closed ≡ true) ⊎ (at + taken.len ≡ c.args.limit) = elim c.then-closed.branch [
      | then-closed-via-then-closed w ↦ inl w.if-closed.true
      | then-closed-via-else-closed+then-end-limit w ↦ inr (omega (arith, w.if-end-limit.true))
    ] in
    subst (λ (fs : List Frame). IsListOf (part c.args.from (c.args.limit - c.args.from) image) fs (at + taken.used - c.args.from) taken.closed) (sym front.1)
    (list_read image c.args.from c.args.limit at taken.len taken.used c.loop-piece.listing.frames front.0 (omega (arith, l.place)) l.below
    (c.requires.within told) (l.short told) (omega (arith, c.in_ok-listed.ensures.count)) l.place (l.read told) piece.front taken.closed piece.ended
    piece.not_ended ends)

pub loop-piece-preserved : goal.loop-piece-preserved
loop-piece-preserved g c =
    let image = g.D.Disk.seen c.args.disk.now in
    let taken = c.in_ok-listed.field-0 in
    let at = c.loop-piece.at in
    let l = c.loop-piece.invariant in
    let list = c.in_ok-listed.ensures in
    let front = list.front in
    let next = c.in_ok-piece-2.ensures in
    record {
      makes = λ first old made. list.makes first old (l.makes first old made);
      short = λ told.
          let piece = subst (λ (x : List ℕ). IsPiece (part at taken.len x) front.0 taken.used taken.closed) l.still.untouched.content (front.4 told) in
          subst AreShort (sym front.1) (are_short-append c.loop-piece.listing.frames front.0 (l.short told) piece.front.short);
      place = omega (arith, size_of-append c.loop-piece.listing.frames front.0, ap size_of front.1, front.2, l.place);
      below = omega (arith, front.3, list.count, l.below);
      some = ⊎_elim (λ none. let zero : taken.used ≡ 0 = omega (arith, none) in
          omega (arith, next.longer zero, l.some, list.count, list.size, c.if-end-limit.false))
          (λ some. omega (arith, next.same (λ is. omega (arith, is, some)), l.some, list.size)) (cases_lt taken.used 1);
      still = still_then g.D.Disk g.met.D.Disk.counts_now c.args.disk.now c.loop-piece.disk c.next_piece.new.disk _ _ (λ is. absurd is)
          l.still list.still;
      certain = list.certain ∙ l.certain;
      read = λ told.
          let piece = subst (λ (x : List ℕ). IsPiece (part at taken.len x) front.0 taken.used taken.closed) l.still.untouched.content (front.4 told) in
          read_on image c.args.from c.args.limit at taken.len taken.used c.loop-piece.listing.frames front.0 (omega (arith, l.place)) l.below
          (c.requires.within told) (l.short told) (omega (arith, list.count)) l.place (l.read told) piece.front
          ∙ ap (λ (fs : List Frame). spelled fs ++ part (at + taken.used) (c.args.limit - (at + taken.used)) image) (sym front.1);
    }

-- fewer bytes are left, or the piece is twice as long
pub loop-piece-smaller : goal.loop-piece-smaller
loop-piece-smaller g c =
    let used = c.in_ok-listed.field-0.used in
    let l = c.loop-piece.invariant in
    let list = c.in_ok-listed.ensures in
    let next = c.in_ok-piece-2.ensures in
    ⊎_elim (λ none. let zero : used ≡ 0 = omega (arith, none) in
    omega (arith, zero, next.longer zero, l.some, l.below, list.count, list.size, list.front.3, c.if-end-limit.false))
    (λ some. omega (arith, some, next.same (λ is. omega (arith, is, some)), l.below, list.count, list.size, list.front.3)) (cases_lt used 1)
