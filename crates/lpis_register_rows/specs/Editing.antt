-- What becomes of texts, as the code has it.
use Rattle.std.specs.Prelude.{◌∷◌, [], List, Option, None, Some}
use Rattle.lpis_register_rows.specs.Content.{TextEdit, Deletes, Replaces, Inserts}
use Rattle.lpis_register_rows.specs.Shapes.{written_text}
use Rattle.lpis_register_rows.specs.declared.texts.Edit.{Edit}
use Rattle.lpis_register_rows.specs.declared.texts.Edit.TheVariants as code

abbrev pub edit_in : Edit → TextEdit
edit_in (code.Deletes id) = Deletes id.now
edit_in (code.Replaces shape) = Replaces (written_text shape.now)
edit_in (code.Inserts shape) = Inserts (written_text shape.now)

abbrev pub edits_in : Option Edit → List TextEdit
edits_in None = []
edits_in (Some edit) = edit_in edit ∷ []
