use Rattle.lpis_register_rows.proofs.ShapeLemmas.{no-shapes, one-list, shapes-reordered}
use Rattle.lpis_register_rows.proofs.laws.texts_keep_one_list_of_shapes.Goals as goal

pub returns-clause-one : goal.returns-clause-one
returns-clause-one c = one-list (λ text members. (c.function_of_text.ensures.polygon text members).0)

pub returns-clause-reordered : goal.returns-clause-reordered
returns-clause-reordered c = shapes-reordered (λ text members. (c.function_of_text.ensures.polygon text members).0)

pub returns-clause-nothing : goal.returns-clause-nothing
returns-clause-nothing c = no-shapes
