use Rattle.mj_dual.proofs.ReadLaws.{row_list-reads, dual_of-reads, assembly_fault-reads}
use Rattle.mj_dual.proofs.laws.assembly_reads_dofs.Goals as goal

pub returns : goal.returns
returns c = record {
  rows = λ y z cs same. row_list-reads y z same cs;
  dual = λ y z cs same. dual_of-reads y z same cs;
  first = λ m y z cs same. assembly_fault-reads y z same cs m;
}
