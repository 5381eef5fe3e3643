use Rattle.column.specs.Seen.{flags_seen}
use Rattle.keeping.specs.Replies.{no_outputs}
use Rattle.grouped.proofs.Merging.{merges}
use Rattle.grouped.specs.Seen.{batch_of}
use Rattle.grouped.proofs.FirstLastGroupsAccumulator.merge_batch.Goals as goal

pub returns : goal.returns
returns g c =
    let b = batch_of c.args.values c.args.orderings c.args.count c.args.group_indices.now c.args.total_num_groups in
    merges c.args.self.now b (flags_seen c.args.is_set) no_outputs _ _ c.take_batch.ensures
