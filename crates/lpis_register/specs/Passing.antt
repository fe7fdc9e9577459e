-- The faults of what publishing calls, as the register tells them.
use Rattle.lpis_checker.specs.declared.exact.ExactFault.{ExactFault}
use Rattle.lpis_checker.specs.declared.exact.ExactFault.TheVariants as exact
use Rattle.lpis_lineage_exact.specs.declared.asking.AskFault.{AskFault}
use Rattle.lpis_lineage_exact.specs.declared.asking.AskFault.TheVariants as ask
use Rattle.lpis_lineage.specs.declared.fault.LineageFault.{LineageFault}
use Rattle.lpis_lineage.specs.declared.fault.LineageFault.TheVariants as lineage
use Rattle.lpis_register.specs.declared.fault.PublishFault.{PublishFault}
use Rattle.lpis_register.specs.declared.fault.PublishFault.TheVariants.{Memory, Lineage, NotKept}
use Rattle.lpis_register.specs.declared.fault.PublishFault.TheVariants.{Exact}

abbrev pub of_lineage : LineageFault → PublishFault
of_lineage lineage.Memory = Memory
of_lineage fault = Lineage fault

abbrev pub of_asking : AskFault → PublishFault
of_asking ask.Memory = Memory
of_asking (ask.NotKept id) = NotKept id

abbrev pub of_blocks : ExactFault → PublishFault
of_blocks exact.Memory = Memory
of_blocks fault = Exact fault
