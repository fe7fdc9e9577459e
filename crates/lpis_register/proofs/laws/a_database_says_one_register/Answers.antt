use Rattle.lpis_register.proofs.OneRegisterLemmas.{says_history, says_one, says_some, says_unread}
use Rattle.lpis_register.proofs.laws.a_database_says_one_register.Goals as goal

pub returns-clause-history : goal.returns-clause-history
returns-clause-history c = λ db h k shapes others a b.
    (says_one c.a_table_has_one_answer.ensures c.order_of_rows_is_free.ensures c.tables_have_one_history.ensures db c.texts_keep_one_list_of_shapes.ensures.one h k shapes others a b).0

pub returns-clause-shapes : goal.returns-clause-shapes
returns-clause-shapes c = λ db h k shapes others a b.
    (says_one c.a_table_has_one_answer.ensures c.order_of_rows_is_free.ensures c.tables_have_one_history.ensures db c.texts_keep_one_list_of_shapes.ensures.one h k shapes others a b).1

pub returns-clause-read : goal.returns-clause-read
returns-clause-read c = says_history c.a_table_has_one_answer.ensures c.order_of_rows_is_free.ensures c.tables_have_one_history.ensures

pub returns-clause-some : goal.returns-clause-some
returns-clause-some c = λ db h shapes says none.
    says_some c.a_table_has_one_answer.ensures c.order_of_rows_is_free.ensures c.tables_have_one_history.ensures db c.texts_keep_one_list_of_shapes.ensures.reordered h shapes says none

pub returns-clause-unread : goal.returns-clause-unread
returns-clause-unread c = says_unread c.a_table_has_one_answer.ensures c.order_of_rows_is_free.ensures c.tables_have_one_history.ensures
