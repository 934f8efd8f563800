use Rattle.command_checks.proofs.Imports.{arith, rules, ◌≡◌}
use Rattle.command_checks.proofs.Limits.{live_more}
use Rattle.command_checks.proofs.tables.live_bytes.Goals as goal

pub loop-entry-preserved : goal.loop-entry-preserved
loop-entry-preserved c =
    let own : c.from-bytes.result ≡ c.blob_bytes.result = search rules in
    record {
      sum = live_more c.args.views.now c.loop-entry.entry-index c.entry-item.result c.loop-entry.bytes c.from-bytes.result c.loop-entry-test.true c.entry-item.is c.loop-entry.invariant.sum (rw own c.blob_bytes.ensures.sum);
      few = omega (arith, c.loop-entry.invariant.few, c.blob_bytes.ensures.few, own);
    }
