-- A name that comes twice, as a refusal of trains.
use Rattle.track_layout.specs.declared.numbers.NotNumbered.{NotNumbered}
use Rattle.track_layout.specs.declared.numbers.NotNumbered.TheVariants as numbering
use Rattle.mission_table.specs.declared.refused.TrainRefused.{TrainRefused}
use Rattle.mission_table.specs.declared.refused.TrainRefused.TheVariants as refused

abbrev pub train_refusal : NotNumbered → TrainRefused
train_refusal (numbering.Double first second) = refused.DoubleName first second
train_refusal numbering.Memory = refused.Memory
