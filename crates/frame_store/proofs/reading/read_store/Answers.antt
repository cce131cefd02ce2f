use Rattle.std.proofs.Common.{◌≡◌, ◌+◌, ◌-◌, ◌≤◌, ℕ, List, not, nat_eq, get_or, min, length, sym, ◌∙◌, ap, subst, rules, arith}
use Rattle.std.proofs.lemmas.Result.{err_from_is_err_and}
use Rattle.fab_disk.specs.Changing.{Still}
use Rattle.frame_store.specs.Layouts.{IsShape, formed, header_at, half_at, half_size}
use Rattle.frame_store.specs.declared.shapes.Shape.{Shape}
use Rattle.frame_store.specs.Laid.{other}
use Rattle.frame_store.specs.Reading.{IsListOf}
use Rattle.frame_store.specs.Images.{part, InForce, generation_at, half_bytes}
use Rattle.frame_store.proofs.Openings.{headers_none, read_laid}
use Rattle.frame_store.proofs.Pieces.{part_within}
use Rattle.frame_store.proofs.Slots.{half_reach}
use Rattle.frame_store.proofs.Stills.{still_then, still_none}
use Rattle.frame_store.proofs.reading.read_store.Given.{Over}
use Rattle.frame_store.proofs.reading.read_store.Goals.{In_ok-headers}
use Rattle.frame_store.proofs.reading.read_store.Goals as goal

pub returns-in_default-clause-none : goal.returns-in_default-clause-none
returns-in_default-clause-none g c = λ told is.
    let image = g.D.Disk.seen c.args.disk.now in
    let whole : 64 ≤ length image = omega (arith, c.in_ok-size.ensures.length told) in
    let are = c.in_ok-headers.ensures.bytes told ∙ ap (λ (l : List ℕ). part 0 64 l) c.len.ensures.still.untouched.content in
    headers_none c.args.shape image c.in_ok-headers.headers whole are c.in_default.ensures.none

-- the headers were read, and nothing was changed
headers_still : (g : Over) (c : In_ok-headers g) → Still g.D.Disk c.args.disk.now c.read_headers.new.disk ⊥
headers_still g c =
    let old = c.args.disk.now in
    still_then g.D.Disk g.met.D.Disk.counts_now old c.len.new.disk c.read_headers.new.disk _ ⊥ (λ is. absurd is)
    (still_then g.D.Disk g.met.D.Disk.counts_now old old c.len.new.disk _ ⊥ (λ is. absurd is) (still_none g.D.Disk old) c.in_ok-size.ensures.still)
    c.in_ok-headers.ensures.still

pub returns-in_err-listing-clause-still : goal.returns-in_err-listing-clause-still
returns-in_err-listing-clause-still g c =
    let p = err_from_is_err_and c.from_residual-in_err-listing.result c.from_residual-in_err-listing.ensures.1 in
    still_then g.D.Disk g.met.D.Disk.counts_now c.args.disk.now c.read_headers.new.disk c.read_list.new.disk _ _ (λ is. cc (p.1, p.2, is))
    (headers_still g (goal.at.returns-in_err-listing-clause-still g c).In_ok-headers) c.in_err-listing.ensures.still

pub returns-clause-still : goal.returns-clause-still
returns-clause-still g c =
    still_then g.D.Disk g.met.D.Disk.counts_now c.args.disk.now c.read_headers.new.disk c.read_list.new.disk _ _ (λ is. absurd cc)
    (headers_still g (goal.at.returns-clause-still g c).In_ok-headers) c.in_ok-listing.ensures.still

-- the half ends well below 2^48
pub read_list-requires-clause-reach : goal.read_list-requires-clause-reach
read_list-requires-clause-reach g c =
    let shape = formed c.in-Some.header.form c.args.shape in
    let is : c.formed-shape.result ≡ shape = c.formed-shape.ensures in
    let limits : IsShape shape = record {
      some_bytes = c.requires.limits.some_bytes;
      few_bytes = c.requires.limits.few_bytes;
      some_slots = c.requires.limits.some_slots;
      few_slots = c.requires.limits.few_slots;
    } in
    omega (
      arith,
      c.min-from.ensures,
      c.half_at.ensures,
      ap (λ (s : Shape). half_at s c.in-Some.half) is,
      c.min.ensures,
      c.half_size.ensures,
      ap half_size is,
      half_reach shape c.in-Some.half limits,
    )

-- what was read is laid
pub returns-clause-laid : goal.returns-clause-laid
returns-clause-laid g c = λ told.
    let image = g.D.Disk.seen c.args.disk.now in
    let form = c.in-Some.header.form in
    let shape = formed form c.args.shape in
    let is : c.formed-shape.result ≡ shape = c.formed-shape.ensures in
    let half = c.in-Some.half in
    let size = c.in_ok-size.size in
    let list = c.in_ok-listing.ensures in
    let frames = c.in_ok-listing.field-0.listing.frames in
    let used = c.in_ok-listing.field-0.used in
    let long : length image ≡ size = sym (c.in_ok-size.ensures.length told) in
    let whole : 64 ≤ length image = omega (arith, long) in
    let content = c.read_headers.ensures.still.untouched.content ∙ c.len.ensures.still.untouched.content in
    let are : c.in_ok-headers.headers ≡ part 0 64 image = c.in_ok-headers.ensures.bytes told
    ∙ ap (λ (l : List ℕ). part 0 64 l) c.len.ensures.still.untouched.content in
    let found : InForce shape half c.in_ok-headers.headers
    × (generation_at half c.in_ok-headers.headers ≡ c.in-Some.header.generation) = search rules in
    let from : c.min-from.result ≡ min (half_at shape half) size = omega (arith, c.min-from.ensures, c.half_at.ensures, ap (λ (s : Shape). half_at s half) is) in
    let count : c.min-from.result + c.min.result - c.min-from.result ≡ min (half_size shape) (size - min (half_at shape half) size)
    = omega (arith, from, c.min.ensures, c.half_size.ensures, ap half_size is) in
    let bytes : part c.min-from.result (c.min-from.result + c.min.result - c.min-from.result) (g.D.Disk.seen c.read_headers.new.disk)
    ≡ half_bytes shape half image =
    ap (λ (n : ℕ). part n (c.min-from.result + c.min.result - c.min-from.result) (g.D.Disk.seen c.read_headers.new.disk)) from
    ∙ ap (λ (n : ℕ). part (min (half_at shape half) size) n (g.D.Disk.seen c.read_headers.new.disk)) count
    ∙ ap (part (min (half_at shape half) size) (min (half_size shape) (size - min (half_at shape half) size))) content
    ∙ part_within (half_at shape half) (half_size shape) size image long in
    let gate : c.header_at.result ≡ header_at (other half) = c.header_at.ensures ∙ ap header_at c.other.ensures in
    read_laid shape image c.in_ok-headers.headers whole are half c.in-Some.header.generation frames used _ c.in_ok-listing.field-0.closed
    found.0 found.1 (subst (λ (l : List ℕ). IsListOf l frames used c.in_ok-listing.field-0.closed) bytes (list.read told)) list.counted.0
    (ap (λ (i : ℕ). not (nat_eq (get_or c.in_ok-headers.headers i 0) 165)) gate)
