-- What is planned is kept by one change of the store.
use Rattle.replica.proofs.Carrying.{ignore_kept, tell_kept, promise_kept, version_next, version_long, store_kept, stamp_held, collect_kept}
use Rattle.replica.proofs.handling.carry_out.Goals as goal

pub returns-in-Ignore : goal.returns-in-Ignore
returns-in-Ignore g c =
    ignore_kept g.D.Disk g.met.D.Disk.only_now c.args.store.now c.requires.runs c.args.call c.args.plan c.requires.change c.in-Ignore.is

pub returns-in-Tell : goal.returns-in-Tell
returns-in-Tell g c =
    tell_kept g.D.Disk g.met.D.Disk.only_now c.args.store.now c.requires.runs c.args.call c.args.plan c.requires.change c.in-Tell.reply c.in-Tell.is

pub returns-in-Promise : goal.returns-in-Promise
returns-in-Promise g c =
    promise_kept g.D.Disk g.met.D.Disk.only_now c.args.store.now c.requires.runs c.args.call c.args.plan c.requires.change c.in-Promise.stamp c.in-Promise.reply
    c.in-Promise.is c.set_order.new.self c.set_order.result c.answered.result c.answered.ensures c.set_order.ensures.change c.set_order.ensures.answer

pub add_version-answer-requires-clause-above : goal.add_version-answer-requires-clause-above
add_version-answer-requires-clause-above g c =
    version_next g.D.Disk g.met.D.Disk.only_now c.args.store.now c.requires.runs c.args.call c.args.plan c.requires.change c.in-Store.stamp c.in-Store.block
    c.in-Store.is

pub add_version-answer-requires-clause-block : goal.add_version-answer-requires-clause-block
add_version-answer-requires-clause-block g c =
    version_long g.D.Disk g.met.D.Disk.only_now c.args.store.now c.requires.runs c.args.call c.args.plan c.requires.change c.in-Store.stamp c.in-Store.block
    c.in-Store.is

pub returns-in-Store : goal.returns-in-Store
returns-in-Store g c =
    store_kept g.D.Disk g.met.D.Disk.only_now c.args.store.now c.requires.runs c.args.call c.args.plan c.requires.change c.in-Store.stamp c.in-Store.block
    c.in-Store.is c.add_version-answer.new.self c.add_version-answer.result c.answered-in-Store.result c.answered-in-Store.ensures
    c.add_version-answer.ensures.change c.add_version-answer.ensures.answer

pub collect-requires-clause-held : goal.collect-requires-clause-held
collect-requires-clause-held g c =
    stamp_held g.D.Disk g.met.D.Disk.only_now c.args.store.now c.requires.runs c.args.call c.args.plan c.requires.change c.in-Collect.stamp c.in-Collect.is

pub returns-in-Collect : goal.returns-in-Collect
returns-in-Collect g c =
    collect_kept g.D.Disk g.met.D.Disk.only_now c.args.store.now c.requires.runs c.args.call c.args.plan c.requires.change c.in-Collect.stamp c.in-Collect.is
    c.collect.new.self c.collect.result c.answered-in-Collect.result c.answered-in-Collect.ensures c.collect.ensures.change c.collect.ensures.answer
