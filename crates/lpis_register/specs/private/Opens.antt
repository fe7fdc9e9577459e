-- What opening the tables of a database comes to.
use Rattle.std.specs.Prelude.{◌≡◌, Result, IfErr, IfOk}
use Rattle.sqlite.specs.Held.{Held}
use Rattle.sqlite_trees.specs.declared.store.Store.{Ghosts}
use Rattle.lpis_register.specs.FailingToOpen.{HasOpeningCause}
use Rattle.lpis_register.specs.Opening.{IsOpened, IsUnopened}
use Rattle.lpis_register.specs.declared.fault.PublishFault.{PublishFault}
use Rattle.lpis_register.specs.declared.fault.PublishFault.TheVariants.{Store}
use Rattle.lpis_register.specs.declared.opening.Loaded.{Loaded}

-- with Ok a register is opened, with a fault none is
pub record Opens {S : Type 0} (store : Ghosts S) (old new : Held S)
    (r : Result Loaded PublishFault) : Type 0 where
  pub opened : IfOk r (λ (told : Loaded). IsOpened store old new told.history told.shapes.items)
  pub unopened : IfErr r (IsUnopened store old new)
  pub cause : IfErr r (λ fault. HasOpeningCause store old new (fault ≡ Store))
