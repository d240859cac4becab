use Rattle.std.proofs.Common.{arith}
use Rattle.std.proofs.lemmas.Grind.{common_steps}
use Rattle.network.specs.Drafts.{drafted}
use Rattle.network.proofs.Lookups.{node_found}
use Rattle.network.proofs.network.Network.node.Goals as goal

pub returns-clause-sets_are_proper : goal.returns-clause-sets_are_proper
returns-clause-sets_are_proper c =
    let d = c.args.self.now.draft in node_found d.inputs (drafted d).body.nodes c.args.i c.item.result d.nodes_proper (grind (arith, common_steps))
