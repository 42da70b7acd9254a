use Rattle.tabled_object.proofs.RangeSets.{listed_rows, listed_columns, listed_row_steps, listed_column_steps, listed_segment}
use Rattle.tabled_border_claims.proofs.objects.listed_by_ranges.Goals as goal

pub returns-clause-rows : goal.returns-clause-rows
returns-clause-rows c = listed_rows

pub returns-clause-columns : goal.returns-clause-columns
returns-clause-columns c = listed_columns

pub returns-clause-some_rows : goal.returns-clause-some_rows
returns-clause-some_rows c = listed_row_steps

pub returns-clause-some_columns : goal.returns-clause-some_columns
returns-clause-some_columns c = listed_column_steps

pub returns-clause-segment : goal.returns-clause-segment
returns-clause-segment c = listed_segment
