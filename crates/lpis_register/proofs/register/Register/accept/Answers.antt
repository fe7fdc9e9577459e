use Rattle.lpis_register.proofs.register.Register.accept.Goals as goal

pub returns : goal.returns
returns g c = rw (← c.self.view_is) (rw (c.as_slice-kept.ensures.value, c.sound_parcels-parcels.ensures.are) at c.accept_parcels.ensures)
