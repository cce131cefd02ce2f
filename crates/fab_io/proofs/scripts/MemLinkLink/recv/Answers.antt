-- A look gives the datagram that is next, and moves behind it.
use Rattle.std.proofs.Common.{◌+◌, ◌<◌, ◌∷◌, length, drop, refl, sym, ap, ◌∙◌, rules, arith, length-append, length-drop, length-take-le}
use Rattle.std.proofs.lemmas.Bool.Decides.{nat_tests}
use Rattle.std.proofs.lemmas.List.{drop_more, take_at}
use Rattle.fab_io.specs.declared.links.Datagram.{Datagram}
use Rattle.fab_io.specs.Scripts.{LinkInMemory}
use Rattle.fab_io.proofs.Given.{look_none, look_one}
use Rattle.fab_io.proofs.scripts.MemLinkLink.recv.Goals as goal

pub returns-in_err-count : goal.returns-in_err-count
returns-in_err-count c = search rules

pub returns-in_default-clause-takes : goal.returns-in_default-clause-takes
returns-in_default-clause-takes c =
    let look = look_none c.self.inside.datagrams.items c.self.inside.sent.items c.self.inside.at _ c.count.new.self _ c.self.view_is (grind (arith, nat_tests)) (search rules) in
    (look.0, look.1)

pub returns-in_default-clause-ok : goal.returns-in_default-clause-ok
returns-in_default-clause-ok c =
    let look = look_none c.self.inside.datagrams.items c.self.inside.sent.items c.self.inside.at _ c.count.new.self _ c.self.view_is (grind (arith, nat_tests)) (search rules) in
    look.2

pub returns-clause-takes : goal.returns-clause-takes
returns-clause-takes c =
    let datagrams = c.self.inside.datagrams.items in
    let at = c.self.inside.at in
    let datagram = c.in-Some.datagram.now in
    let n = c.min-n.result in
    let copied = c.copy_from_slice.new.self in
    let below : at < length datagrams = omega (arith, c.in-Some.ensures.lookup.3.0, ap length c.deref.ensures.value) in
    let long = length-append copied (drop n c.args.into.now) in (
      datagram,
      sym (ap (λ (l : LinkInMemory). l.waiting) c.self.view_is) ∙ drop_more datagrams at datagram below
          ∙ ap (λ (d : Datagram). d ∷ drop (at + 1) datagrams) (search rules),
      record {
        port_is = refl;
        length_is = omega (arith, long, length-drop n c.args.into.now);
        bytes_are = take_at copied (drop n c.args.into.now) n (omega (arith, length-take-le n c.args.into.now (omega arith))) ∙ search rules;
      },
    )

pub returns-clause-ok : goal.returns-clause-ok
returns-clause-ok c = look_one c.self.inside.datagrams.items c.self.inside.sent.items c.self.inside.at _ c.count.new.self _ c.self.view_is (search rules)
