use Rattle.std.proofs.Common.{rules, None}
use Rattle.stations.specs.declared.TheConstants.{STATIONS}
use Rattle.lists.proofs.Made.{made_part}
use Rattle.protocol.specs.Calls.{mail}
use Rattle.shed_core.proofs.shed.Shed.mailbox.Goals as goal

pub returns-clause-places : goal.returns-clause-places
returns-clause-places g c =
    let s = c.args.self.now in
    let f = mail s.count c.args.p c.args.heard c.args.buffers.now.letters.now in
    made_part _ _ STATIONS s.count f None (λ i y q l k. search rules) s.few _ c.from_fn.ensures.items
