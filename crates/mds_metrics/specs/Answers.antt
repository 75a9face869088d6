-- What is answered: RFC 9112, section 2.1. Each line of a head ends with CR and LF.
use Rattle.std.specs.Prelude.{ℕ, ◌==◌, List, ◌++◌, length, codes, decimal, if◌then◌else◌}
use Rattle.std.specs.List.{starts_with}
use Rattle.mds_metrics.specs.declared.asked.Asked.{Asked}
use Rattle.mds_metrics.specs.declared.asked.Asked.TheVariants as asks
use Rattle.mds_metrics.specs.declared.line.Line.{Line}
use Rattle.mds_metrics.specs.declared.reading.Readiness.{Readiness}
use Rattle.mds_metrics.specs.declared.reading.Readiness.TheVariants.{Reading, Ready, NotKept}
use Rattle.mds_metrics.specs.Text.{lines_text}

-- what a request asks for that begins with these bytes: its method and its target tell it
abbrev pub asked_by : List ℕ → Asked
asked_by bytes =
    if starts_with ◌==◌ bytes (codes "GET /metrics ") then asks.Metrics
    else (if starts_with ◌==◌ bytes (codes "GET /ready ") then asks.Ready else asks.Other)

-- all bytes of an answer with this status, of this type, and with this body
abbrev pub answer_text : List ℕ → List ℕ → List ℕ → List ℕ
answer_text status kind body =
    codes "HTTP/1.1 " ++ (status ++ (codes "\r\ncontent-type: " ++ (kind ++ codes "\r\n")))
    ++ (codes "content-length: " ++ (decimal (length body) ++ codes "\r\nconnection: close\r\n\r\n"))
    ++ body

-- the version of the program, as a family of one series
abbrev pub build_text : List ℕ → List ℕ
build_text version =
    codes "# HELP mds_city_build_info The program, by its version.\n# TYPE mds_city_build_info gauge\nmds_city_build_info{version=\""
    ++ (version ++ codes "\"} 1\n")

-- the version, and the lines with their numbers
abbrev pub metrics_text : List ℕ → List Line → List ℕ → List ℕ
metrics_text version lines values = build_text version ++ lines_text lines values

-- an answer with a body of JSON
abbrev pub json_text : List ℕ → List ℕ → List ℕ
json_text status body = answer_text status (codes "application/json") body

-- whether a server is ready: it is; what is asked can't be recorded; it reads its journal
abbrev pub ready_text : Readiness → List ℕ
ready_text Ready = json_text (codes "200 OK") (codes "{}")
ready_text NotKept =
    json_text (codes "503 Service Unavailable") (codes "{\"error\":\"not_kept\"}")
ready_text (Reading read all) =
    json_text (codes "503 Service Unavailable")
    (codes "{\"read\":" ++ (decimal read ++ (codes ",\"of\":" ++ (decimal all ++ codes "}"))))

-- something is asked that isn't there
abbrev pub not_found_text : List ℕ
not_found_text = json_text (codes "404 Not Found") (codes "{\"error\":\"not_found\"}")

-- there is no memory for an answer
abbrev pub out_of_memory_text : List ℕ
out_of_memory_text = codes
    "HTTP/1.1 503 Service Unavailable\r\ncontent-length: 0\r\nconnection: close\r\n\r\n"
