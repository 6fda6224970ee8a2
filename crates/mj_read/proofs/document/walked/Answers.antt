use Rattle.mj_read.proofs.Documents.{document-some, document-none, no_memory}
use Rattle.mj_read.proofs.document.walked.Goals as goal

pub returns-in-Ok : goal.returns-in-Ok
returns-in-Ok c =
    let read = c.in-Ok.ensures.ok in
    rw (document-some c.args.bytes.now _ read.0 read.1) (rw c.format_of.ensures at c.walk_table.ensures)

pub returns-else-is_memory : goal.returns-else-is_memory
returns-else-is_memory c =
    rw (document-none c.args.bytes.now (c.in-Err.ensures.refused (no_memory c.is_memory.result c.is_memory.ensures c.if-is_memory.false))) c.refuse.ensures
