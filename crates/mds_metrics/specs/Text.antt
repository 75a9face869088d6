-- The text form of Prometheus, version 0.0.4.
use Rattle.std.specs.Prelude.{ℕ, ◌/◌, ◌%◌, List, [], ◌∷◌, ◌++◌, codes, decimal}
use Rattle.mds_metrics.specs.declared.line.Kind.{Kind}
use Rattle.mds_metrics.specs.declared.line.Kind.TheVariants as kinds
use Rattle.mds_metrics.specs.declared.line.Unit.{Unit}
use Rattle.mds_metrics.specs.declared.line.Unit.TheVariants.{Whole, Micros}
use Rattle.mds_metrics.specs.declared.line.Line.{Line}
use Rattle.mds_metrics.specs.declared.line.Line.TheVariants.{Family, Sample}

-- the word for what a family tells
abbrev pub kind_word : Kind → List ℕ
kind_word kinds.Counter = codes "counter"
kind_word kinds.Gauge = codes "gauge"
kind_word kinds.Histogram = codes "histogram"

-- the digit of a number at a place: 10, 100, 1000 and so on
abbrev pub digit : ℕ → ℕ → List ℕ
digit place value = decimal (value / place % 10)

-- the number of a series: as it is, or so many microseconds as seconds with six decimals
abbrev pub number_text : Unit → ℕ → List ℕ
number_text Whole value = decimal value
number_text Micros value =
    decimal (value / 1000000) ++ (codes "." ++ (digit 100000 value ++ (digit 10000 value
    ++ (digit 1000 value ++ (digit 100 value ++ (digit 10 value ++ decimal (value % 10)))))))

-- what begins a family: what it tells, in words and by a word; or a series with its number
abbrev pub line_text : Line → ℕ → List ℕ
line_text (Family name kind help) value =
    codes "# HELP " ++ (name.now ++ (codes " " ++ (help.now ++ (codes "\n# TYPE "
    ++ (name.now ++ (codes " " ++ (kind_word kind ++ codes "\n")))))))
line_text (Sample series unit source) value =
    series.now ++ (codes " " ++ (number_text unit value ++ codes "\n"))

-- all lines, each with its number
abbrev pub lines_text : List Line → List ℕ → List ℕ
lines_text lines [] = []
lines_text [] (value ∷ values) = []
lines_text (line ∷ lines) (value ∷ values) = line_text line value ++ lines_text lines values
